-- Where the replay's parts lie in its one lent memory of 20,480 words: the main stack in the first 8,192, the alternate stack in the next 8,192,
-- two words for each element, and in the last 4,096 the places where the tree's records begin.
use Rattle.std.specs.Prelude.{ℕ, List, ◌≡◌, length, take, drop}

abbrev pub work_words : ℕ
work_words = 20480

abbrev pub main_in : List ℕ → List ℕ
main_in work = take 8192 work

abbrev pub alt_in : List ℕ → List ℕ
alt_in work = take 8192 (drop 8192 work)

abbrev pub starts_in : List ℕ → List ℕ
starts_in work = take 4096 (drop 16384 work)

-- The stacks may have changed; the places of the records stay.
pub record Keeps (before after : List ℕ) : Type 0 where
  pub starts : starts_in after ≡ starts_in before
  pub same : length after ≡ length before
