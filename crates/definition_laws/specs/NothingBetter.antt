-- Nothing better was thrown away: document 02, R-12. Candidates are offered to a table one after another, at fixed probabilities.
use Rattle.std.specs.Prelude.{true, false, List, [], ◌∷◌, ◌≡◌}
use Rattle.contexts.specs.declared.Context.{Context}
use Rattle.costs.specs.Price.{is_price}
use Rattle.definition.specs.Candidates.{Candidate}
use Rattle.definition.specs.Tables.{Probs, Table, cost_at, free_verify}
use Rattle.definition.specs.Refusals.{State, done, M, ◌>>=◌, pure}
use Rattle.definition.specs.Insertion.{worthwhile, beats, insert}
use Rattle.definition_laws.specs.Laws.{All}

-- the table after every candidate of a list was offered, the first one first
unfoldable pub offers : Context → Probs → List Candidate → Table → M Table
offers c p [] t = pure t
offers c p (x ∷ xs) t = insert c p x t >>= λ o. offers c p xs o.table

-- ---- of one in a list, of any two in a list

pub data SomeOf {A : Type 0} (P : A → Type 0) : List A → Type 0 where
  here : {x : A} {xs : List A} → P x → SomeOf P (x ∷ xs)
  later : {x : A} {xs : List A} → SomeOf P xs → SomeOf P (x ∷ xs)

-- in either order
pub data AnyTwo {A : Type 0} (R : A → A → Type 0) : List A → Type 0 where
  nobody : AnyTwo R []
  first : {x : A} {xs : List A} → All (λ y. R x y × R y x) xs → AnyTwo R xs → AnyTwo R (x ∷ xs)

-- ---- what is promised

-- of the dissatisfaction probability, a key's third part, a table has one only
abbrev pub SameKey : Candidate → Candidate → Type 0
SameKey x y = (x.ty ≡ y.ty) × (free_verify x ≡ free_verify y)

-- Of the table after these offers. `beats p x y` says that x is a subtype of y, key by key, at the same or a lower cost.
pub record NothingBetter (c : Context) (p : Probs) (offered : List Candidate) (t : Table) : Type 0 where
  -- no entry is a subtype of another at the same or a lower cost, and all their costs can be compared
  pub none_beaten : AnyTwo (λ x y. beats p x y ≡ false) t
  pub comparable : All (λ x. is_price (cost_at p x) ≡ true) t
  -- for every offer that was not malleable, locally invalid or too tall some entry is a subtype of it at the same or a lower cost
  pub all_met : All (λ x. worthwhile c x ≡ true → SomeOf (λ e. beats p e x ≡ true) t) offered
  -- at most one entry has a key
  pub one_of_a_key : AnyTwo (λ x y. SameKey x y → ⊥) t

-- from an empty table, over any offers of which none is refused
abbrev pub NothingThrownAway : Type 0
NothingThrownAway =
    (c : Context) (p : Probs) (xs : List Candidate) (s s' : State) (t : Table) → offers c p xs [] s ≡ done t s' → NothingBetter c p xs t
