-- Thresh does what its type says, where its children do.
use Rattle.correctness.specs.declared.TypeError.{TypeError}
use Rattle.std.specs.Prelude.{Result}
use Prim.Native.Nat.{ℕ, ◌+◌}
use native.Mathlib.Omega.{arith}
use mathlib.Core.Bool.{Bool, true, false, ◌&&◌}
use mathlib.Core.List.{List, [], ◌∷◌, ◌++◌, append-nil, map}
use mathlib.Core.Path.{◌≡◌, refl}
use lib.Dec.{leb, leb→le}
use lib.ListN.{length, length-append}
use Rattle.correctness.specs.declared.Base.TheVariants.{B, W}
use Rattle.correctness.specs.declared.Correctness.{Correctness}
use Rattle.types.specs.declared.«Type».{«Type»}
use Rattle.correctness.specs.Letters.{is_b, is_w}
use Rattle.contexts.specs.Lists.{all, sum}
use Rattle.correctness.specs.CorrectnessRules.{first_b, num_args}
use Rattle.types.specs.TypeRules as rule
use Rattle.types.specs.TypeRules.{typed_if, k_of_n}
use Rattle.contexts.specs.declared.Context.{Context}
use Rattle.trees.specs.Fragment.{Fragment, Fragments, end, ◌▹◌, Thresh}
use Rattle.script_machine.specs.Numbers.{Bytes, Stack}
use Rattle.script_machine.specs.Words.{ADD}
use Rattle.script_machine.specs.Machine.{Outcomes, Action, ◌then◌}
use Rattle.script_machine.proofs.Meaning as Meaning
use Rattle.script_machine.proofs.Meaning.{meaning, added, summed}
use Rattle.script_machine.proofs.Outcome.{Out, ret, ok-then, seq, weaken}
use Rattle.script_machine.proofs.Round.{T_of}
use Rattle.script_machine.proofs.Sizes.{Size, Counts, counts, counts-none, counts-add, counts-size, both}
use Rattle.script_machine.proofs.Sound.{tested, Sound, Good, ok_if-good, at_base, seq-B, seq-W}

-- the children's correctness, whether all are W, and the count that their inputs make
abbrev corrs : List «Type» → List Correctness
corrs ts = map (λ t. t.corr) ts

abbrev all_w : List «Type» → Bool
all_w ts = all (λ y. is_w y.base) (corrs ts)

abbrev count : List «Type» → ℕ
count ts = sum (λ x. num_args x.input) (corrs ts)

-- over the sum so far, a new sum is left, and so many are removed as the count says
record Adds (n : ℕ) (zs ws : Stack) : Type 0 where
  counted : Counts n (length zs)
  total : Bytes
  is : ws ≡ total ∷ []

-- a child that removes zs, then others that remove us
adds-more : (t : «Type») (n : ℕ) (zs : Stack) → Size 1 t.corr.input (length zs) → (us ws : Stack) → Adds n us ws
    → Adds (num_args t.corr.input + n) (zs ++ us) ws
adds-more t n zs l us ws q =
    record {
      counted = rw length-append
          (counts-add (num_args t.corr.input) n (length zs) (length us) (counts t.corr.input (length zs) l) q.counted);
      total = q.total;
      is = q.is;
    }

typed_if-good : (o : Outcomes) (q : Bool) (r : Result «Type» TypeError) (g : Action) → (q ≡ true → Good o r g) → Good o (typed_if q r) g
typed_if-good o true r g h = h refl
typed_if-good o false r g h = tt

-- no k is between 1 and 0
no-child : (k : ℕ) → k_of_n k 0 ≡ true → ⊥
no-child k e =
    let f = both (leb 1 k) (leb k 0 && leb 0 16) e in
    let g = both (leb k 0) (leb 0 16) f.1 in
    let l = leb→le 1 k (T_of f.0) in
    let m = leb→le k 0 (T_of g.0) in
    omega arith

module _ (c : Context) (o : Outcomes) where
  -- each child does what its type says
  abbrev pub Each : List «Type» → Fragments → Type 0
  Each [] end = Unit {0}
  Each [] (x ▹ xs) = ⊥
  Each (t ∷ ts) end = ⊥
  Each (t ∷ ts) (x ▹ xs) = Sound o t.corr (meaning c o x) × Each ts xs

  -- y is the sum so far
  adds-out : (ts : List «Type») (xs : Fragments) → Each ts xs → all_w ts ≡ true → (y : Bytes) (s : Stack)
      → Out (λ s a. added c o xs (y ∷ s) a) (Adds (count ts)) s
  unfolding all sum
  adds-out [] end h e y s = ret (y ∷ []) (record { counted = counts-none; total = y; is = refl }) (λ r a. refl) s
  adds-out [] (x ▹ xs) h e y s = absurd h
  adds-out (t ∷ ts) end h e y s = absurd h
  adds-out (t ∷ ts) (x ▹ xs) h e y s =
      let f = both (is_w t.corr.base) (all_w ts) e in
      seq-W _ ((at_base o W t.corr (meaning c o x) f.0 h.0).1 y s)
      (λ zs z n r. next zs n (adds-out ts xs h.1 f.1) y z r)
      (λ zs z n r. next zs n (adds-out ts xs h.1 f.1) z y r)
    where
      next : (zs : Stack) → Size 1 t.corr.input (length zs) → ((y : Bytes) (s : Stack) → Out (λ s a. added c o xs (y ∷ s) a) (Adds (count ts)) s)
          → (a b : Bytes) (r : Stack)
          → Out (λ r m. (Meaning.!◌ c o ADD then added c o xs) (a ∷ b ∷ r) m) (λ us ws. Adds (num_args t.corr.input + count ts) (zs ++ us) ws) r
      next zs n k a b r = ok-then _ (added c o xs) _ λ _. ok-then _ (added c o xs) _ λ _. weaken (k _ r) (adds-more t (count ts) zs n)

  sum-out : (t : «Type») (ts : List «Type») (x : Fragment) (xs : Fragments) → Sound o t.corr (meaning c o x) → Each ts xs
      → is_b t.corr.base ≡ true → all_w ts ≡ true → (s : Stack) → Out (summed c o (x ▹ xs)) (Adds (count (t ∷ ts))) s
  unfolding all sum
  sum-out t ts x xs h k e f s = seq-B _ (at_base o B t.corr (meaning c o x) e h s) λ zs y l v r.
      weaken (adds-out ts xs k f y r) (adds-more t (count ts) zs l)

  pub thresh-good : (k : ℕ) (ts : List «Type») (xs : Fragments) → Each ts xs → Good o (rule.threshold k ts) (meaning c o (Thresh k xs))
  thresh-good k [] end h = typed_if-good o (k_of_n k 0) _ _ λ e. absurd (no-child k e)
  thresh-good k [] (x ▹ xs) h = absurd h
  thresh-good k (t ∷ ts) end h = absurd h
  thresh-good k (t ∷ ts) (x ▹ xs) h = typed_if-good o (k_of_n k (length (t ∷ ts))) _ _ λ _.
      ok_if-good o (first_b (corrs (t ∷ ts)) && all (λ x. x.unit && x.dissatisfiable) (corrs (t ∷ ts))) _ _ _ λ e s.
      let f = both (first_b (corrs (t ∷ ts))) (all (λ x. x.unit && x.dissatisfiable) (corrs (t ∷ ts))) e in
      let g = both (is_b t.corr.base) (all_w ts) f.0 in
      seq _ (sum-out t ts x xs h.0 h.1 g.0 g.1 s) λ zs ws q r. rw q.is
      (ret (_ ∷ []) (tested _ (rw append-nil (counts-size (count (t ∷ ts)) (length zs) q.counted))) (λ r a. refl) r)
