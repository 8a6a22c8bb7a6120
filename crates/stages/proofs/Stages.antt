-- The tables of And and of Or are the definition's And and Or; and a stage step by step, as a loop goes through its tables. Assumes nothing.
use mathlib.Core.Path.{◌≡◌, refl, sym, ap, ◌∙◌}
use mathlib.Core.List.{List, [], ◌∷◌, ◌++◌}
use Prim.Native.Nat.{ℕ, suc, ◌+◌, ◌<◌}
use native.Mathlib.Omega.{arith}
use lib.ListN.{length, get_or, drop}
use lib.Seq.{drop-cons, drop-length}
use lib.Ieee.{Float}
use Rattle.contexts.specs.declared.Context.{Context}
use Rattle.policies.specs.Policy.{Policy, Unsatisfiable, Trivial, Key, Lock, Hash, And, Or, Thresh}
use Rattle.policies.specs.Forms.{kind_of}
use Rattle.policies.specs.Array.{policy_at}
use Rattle.definition.specs.Tables.{Probs, Table}
use Rattle.definition.specs.Refusals.{M, State, Res, done, refused, then, pure}
use Rattle.definition.specs.Search.{Again, Searcher, Four, and_body, and_ors, four_of, or_body, searcher}
use Rattle.definition_laws.proofs.Steps.{then-done, then-refused, then-then, and_body-steps, and_ors-plain, and_ors-steps, four_of-steps, or_body-steps, or_pairs}
use Rattle.stages.specs.declared.Ask.{Ask}
use Rattle.stages.specs.declared.Pairing.{Pairing}
use Rattle.stages.specs.Stages.{asked, ask_all, paired, pair_all, staged, and_asks, and_pairings, and_or_asks, and_or_pairings}
use Rattle.stages.specs.Stages.{side_asks, or_asks, or_pairings}

-- ---- steps in turn

pub then_same : {A B : Type 0} (r : Res A) (k l : A → M B) → ((a : A) (s : State) → k a s ≡ l a s) → then r k ≡ then r l
unfolding then
then_same (done a s) k l same = same a s
then_same (refused e) k l same = refl

then-pure : {A : Type 0} (r : Res A) → then r (λ a. pure a) ≡ r
unfolding then
then-pure (done a s) = refl
then-pure (refused e) = refl

append-none : {A : Type 0} (xs : List A) → xs ++ [] ≡ xs
append-none [] = refl
append-none (x ∷ xs) = ap (λ l. x ∷ l) (append-none xs)

append-next : {A : Type 0} (xs : List A) (y : A) (ys : List A) → (xs ++ (y ∷ [])) ++ ys ≡ xs ++ y ∷ ys
append-next [] y ys = refl
append-next (x ∷ xs) y ys = ap (λ l. x ∷ l) (append-next xs y ys)

pub drop-next : {A : Type 0} (xs : List A) (n : ℕ) (d : A) → n < length xs → drop n xs ≡ get_or xs n d ∷ drop (n + 1) xs
drop-next xs n d l =
    let one : suc n ≡ n + 1 = omega arith in
    drop-cons xs n d l ∙ ap (λ (i : ℕ). get_or xs n d ∷ drop i xs) one

-- ---- asking, step by step

module _ (c : Context) (pol : List ℕ) where
  pub ask-next : (a : Ask) (as' : List Ask) (s : State) →
      ask_all c pol (a ∷ as') s ≡ then (asked c pol a s) λ t s. then (ask_all c pol as' s) λ ts. pure (t ∷ ts)
  unfolding ask_all
  ask-next a as' s = refl

  -- a loop that has so many tables and asks for the rest: for the next, until there is none
  module _ {B : Type 0} (k : List Table → M B) (sofar : List Table) where
    pub ask-end : (asks : List Ask) (n : ℕ) (s : State) → n ≡ length asks → then (ask_all c pol (drop n asks) s) (λ ts. k (sofar ++ ts)) ≡ k sofar s
    unfolding ask_all then
    ask-end asks n s is =
        ap (λ (l : List Ask). then (ask_all c pol l s) (λ ts. k (sofar ++ ts))) (ap (λ (n : ℕ). drop n asks) is ∙ drop-length asks)
        ∙ ap (λ (l : List Table). k l s) (append-none sofar)

    pub ask-on : (asks : List Ask) (n : ℕ) (d : Ask) (s : State) → n < length asks →
        then (ask_all c pol (drop n asks) s) (λ ts. k (sofar ++ ts))
        ≡ then (asked c pol (get_or asks n d) s) λ t s. then (ask_all c pol (drop (n + 1) asks) s) λ ts. k ((sofar ++ (t ∷ [])) ++ ts)
    unfolding then
    ask-on asks n d s l =
        ap (λ (as' : List Ask). then (ask_all c pol as' s) (λ ts. k (sofar ++ ts)))
        (drop-next asks n d l)
        ∙ ap (λ (r : Res (List Table)). then r (λ ts. k (sofar ++ ts))) (ask-next (get_or asks n d) (drop (n + 1) asks) s)
        ∙ then-then (asked c pol (get_or asks n d) s) (λ t s. then (ask_all c pol (drop (n + 1) asks) s) λ ts. pure (t ∷ ts)) (λ ts. k (sofar ++ ts))
        ∙ then_same (asked c pol (get_or asks n d) s) _ _ (λ t s. rest t s)
      where
        rest : (t : Table) (s : State) →
            then (then (ask_all c pol (drop (n + 1) asks) s) (λ ts. pure (t ∷ ts))) (λ ts. k (sofar ++ ts))
            ≡ then (ask_all c pol (drop (n + 1) asks) s) λ ts. k ((sofar ++ (t ∷ [])) ++ ts)
        rest t s =
            then-then (ask_all c pol (drop (n + 1) asks) s) (λ ts. pure (t ∷ ts)) (λ ts. k (sofar ++ ts))
            ∙ then_same (ask_all c pol (drop (n + 1) asks) s) (λ ts. k (sofar ++ t ∷ ts)) (λ ts. k ((sofar ++ (t ∷ [])) ++ ts))
            (λ ts s. ap (λ (l : List Table). k l s) (sym (append-next sofar t ts)))

    pub ask-on-done : (asks : List Ask) (n : ℕ) (d : Ask) (s : State) {s' : State} {t : Table} → n < length asks →
        asked c pol (get_or asks n d) s ≡ done t s' →
        then (ask_all c pol (drop n asks) s) (λ ts. k (sofar ++ ts))
        ≡ then (ask_all c pol (drop (n + 1) asks) s') (λ ts. k ((sofar ++ (t ∷ [])) ++ ts))
    ask-on-done asks n d s l is =
        ask-on asks n d s l ∙ then-done (λ t s. then (ask_all c pol (drop (n + 1) asks) s) λ ts. k ((sofar ++ (t ∷ [])) ++ ts)) is

    pub ask-on-refused : (asks : List Ask) (n : ℕ) (d : Ask) (s : State) {e : ℕ} → n < length asks →
        asked c pol (get_or asks n d) s ≡ refused e → then (ask_all c pol (drop n asks) s) (λ ts. k (sofar ++ ts)) ≡ refused e
    ask-on-refused asks n d s l is =
        ask-on asks n d s l ∙ then-refused (λ t s. then (ask_all c pol (drop (n + 1) asks) s) λ ts. k ((sofar ++ (t ∷ [])) ++ ts)) is

-- ---- pairing, step by step

module _ (c : Context) (p : Probs) (g : Again) (ts : List Table) where
  pub pair-none : (t : Table) (s : State) → pair_all c p g ts [] t s ≡ done t s
  unfolding pair_all
  pair-none t s = refl

  pub pair-next : (a : Pairing) (as' : List Pairing) (t : Table) (s : State) →
      pair_all c p g ts (a ∷ as') t s ≡ then (paired c p g ts a t s) λ t. pair_all c p g ts as' t
  unfolding pair_all
  pair-next a as' t s = refl

  pub pair_end : (pairings : List Pairing) (n : ℕ) (t : Table) (s : State) → n ≡ length pairings → pair_all c p g ts (drop n pairings) t s ≡ done t s
  pair_end pairings n t s is =
      ap (λ (l : List Pairing). pair_all c p g ts l t s) (ap (λ (n : ℕ). drop n pairings) is ∙ drop-length pairings) ∙ pair-none t s

  pub pair-on : (pairings : List Pairing) (n : ℕ) (d : Pairing) (t : Table) (s : State) → n < length pairings →
      pair_all c p g ts (drop n pairings) t s
      ≡ then (paired c p g ts (get_or pairings n d) t s) λ t. pair_all c p g ts (drop (n + 1) pairings) t
  pair-on pairings n d t s l =
      ap (λ (as' : List Pairing). pair_all c p g ts as' t s)
      (drop-next pairings n d l)
      ∙ pair-next (get_or pairings n d) (drop (n + 1) pairings) t s

  -- one pairing and then the others, the last of which ends it
  pairs : Pairing → List Pairing → Table → M Table
  pairs a [] t = paired c p g ts a t
  pairs a (b ∷ bs) t = λ s. then (paired c p g ts a t s) λ t. pairs b bs t

  pairs-are : (bs : List Pairing) (a : Pairing) (t : Table) (s : State) → pairs a bs t s ≡ pair_all c p g ts (a ∷ bs) t s
  unfolding pairs pair_all
  pairs-are [] a t s = sym (then-pure (paired c p g ts a t s))
  pairs-are (b ∷ bs) a t s =
      then_same (paired c p g ts a t s) (λ t. pairs b bs t) (λ t. pair_all c p g ts (b ∷ bs) t) (λ t s. pairs-are bs b t s)

pub staged-is : (c : Context) (pol : List ℕ) (p : Probs) (g : Again) (asks : List Ask) (pairings : List Pairing) (t : Table) (s : State) →
    staged c pol p g asks pairings t s ≡ then (ask_all c pol asks s) λ ts. pair_all c p g ts pairings t
unfolding staged
staged-is c pol p g asks pairings t s = refl

-- ---- a stage is one computation

module _ {B : Type 0} (c : Context) (pol : List ℕ) where
  -- what is done with all tables, one asked for after another
  asking : List Ask → (List Table → M B) → M B
  asking [] k = k []
  asking (a ∷ as') k = λ s. then (asked c pol a s) λ t. asking as' (λ ts. k (t ∷ ts))

  asking-is : (as' : List Ask) (k : List Table → M B) (s : State) → asking as' k s ≡ then (ask_all c pol as' s) k
  unfolding asking ask_all then
  asking-is [] k s = refl
  asking-is (a ∷ as') k s = by_first (asked c pol a s) (λ k s. asking-is as' k s)
    where
      by_first : (r : Res Table) → ((k : List Table → M B) (s : State) → asking as' k s ≡ then (ask_all c pol as' s) k) →
          then r (λ t. asking as' (λ ts. k (t ∷ ts))) ≡ then (then r λ t s. then (ask_all c pol as' s) λ ts. pure (t ∷ ts)) k
      by_first (done t s) rest = rest (λ ts. k (t ∷ ts)) s ∙ sym (then-then (ask_all c pol as' s) (λ ts. pure (t ∷ ts)) k)
      by_first (refused e) rest = refl

  asking-same : (as' : List Ask) (k l : List Table → M B) (s : State) → ((ts : List Table) (s : State) → k ts s ≡ l ts s) →
      asking as' k s ≡ asking as' l s
  unfolding asking
  asking-same [] k l s same = same [] s
  asking-same (a ∷ as') k l s same =
      then_same (asked c pol a s) (λ t. asking as' (λ ts. k (t ∷ ts))) (λ t. asking as' (λ ts. l (t ∷ ts)))
      (λ t s. asking-same as' (λ ts. k (t ∷ ts)) (λ ts. l (t ∷ ts)) s (λ ts s. same (t ∷ ts) s))

  asking-then : {C : Type 0} (as' : List Ask) (k : List Table → M B) (l : B → M C) (s : State) →
      then (asking as' k s) l ≡ then (ask_all c pol as' s) (λ ts s. then (k ts s) l)
  asking-then as' k l s = ap (λ (r : Res B). then r l) (asking-is as' k s) ∙ then-then (ask_all c pol as' s) k l

module _ (c : Context) (pol : List ℕ) (p : Probs) (g : Again) where
  -- a stage whose pairings begin with one
  stage_is : (asks : List Ask) (a : Pairing) (as' : List Pairing) (t : Table) (s : State) →
      asking c pol asks (λ ts. pairs c p g ts a as' t) s ≡ staged c pol p g asks (a ∷ as') t s
  stage_is asks a as' t s =
      asking-same c pol asks (λ ts. pairs c p g ts a as' t) (λ ts. pair_all c p g ts (a ∷ as') t) s (λ ts s. pairs-are c p g ts as' a t s)
      ∙ asking-is c pol asks (λ ts. pair_all c p g ts (a ∷ as') t) s
      ∙ sym (staged-is c pol p g asks (a ∷ as') t s)

  -- ---- And

  pub and-staged : (l r : ℕ) (s : State) →
      and_body c (searcher c (policy_at pol l)) (searcher c (policy_at pol r)) p g s
      ≡ staged c pol p g (and_asks l r p.sat p.dissat) and_pairings [] s
  unfolding asking pairs
  and-staged l r s =
      and_body-steps c (searcher c (policy_at pol l)) (searcher c (policy_at pol r)) p g s
      ∙ stage_is (and_asks l r p.sat p.dissat) _ _ [] s

  -- ---- Or with an And on one side

  pub and-or-staged : (x y other : ℕ) (w v : Float) (t : Table) (s : State) →
      and_ors c p g (searcher c (And (policy_at pol x) (policy_at pol y))) (searcher c (policy_at pol other)) w v t s
      ≡ staged c pol p g (and_or_asks x y other p.sat p.dissat w v) (and_or_pairings w v) t s
  unfolding asking pairs searcher
  and-or-staged x y other w v t s =
      and_ors-steps c p g (And (policy_at pol x) (policy_at pol y)) _ (searcher c (policy_at pol x)) (searcher c (policy_at pol y))
      (searcher c (policy_at pol other)) w v t s
      ∙ stage_is (and_or_asks x y other p.sat p.dissat w v) _ _ t s

  -- no And
  pub and-or-plain : (q : Policy) (other : Searcher) (w v : Float) (t : Table) (s : State) → (kind_of q ≡ 10 → ⊥) →
      and_ors c p g (searcher c q) other w v t s ≡ done t s
  unfolding searcher kind_of
  and-or-plain Unsatisfiable other w v t s other-kind = and_ors-plain c p g _ _ other w v t s
  and-or-plain Trivial other w v t s other-kind = and_ors-plain c p g _ _ other w v t s
  and-or-plain (Key n) other w v t s other-kind = and_ors-plain c p g _ _ other w v t s
  and-or-plain (Lock kind n) other w v t s other-kind = and_ors-plain c p g _ _ other w v t s
  and-or-plain (Hash kind n) other w v t s other-kind = and_ors-plain c p g _ _ other w v t s
  and-or-plain (And l r) other w v t s other-kind = absurd (other-kind refl)
  and-or-plain (Or l r m n) other w v t s other-kind = and_ors-plain c p g _ _ other w v t s
  and-or-plain (Thresh k xs) other w v t s other-kind = and_ors-plain c p g _ _ other w v t s

  -- ---- Or

  -- the four tables of a side
  four_in : List Table → Four
  four_in ts = record { both = get_or ts 0 []; other = get_or ts 1 []; own = get_or ts 2 []; none = get_or ts 3 [] }

  four-asked : (r : ℕ) (w v : Float) (s : State) →
      four_of (searcher c (policy_at pol r)) p w v s ≡ asking c pol (side_asks r p.sat p.dissat w v) (λ ts. pure (four_in ts)) s
  unfolding asking four_in
  four-asked r w v s = four_of-steps (searcher c (policy_at pol r)) p w v s

  -- what is done with the four tables of a side
  four-then : (r : ℕ) (w v : Float) (k : Four → M Table) (s : State) →
      then (four_of (searcher c (policy_at pol r)) p w v s) k ≡ asking c pol (side_asks r p.sat p.dissat w v) (λ ts. k (four_in ts)) s
  unfolding then
  four-then r w v k s =
      ap (λ (f : Res Four). then f k) (four-asked r w v s)
      ∙ asking-then c pol (side_asks r p.sat p.dissat w v) (λ ts. pure (four_in ts)) k s
      ∙ sym (asking-is c pol (side_asks r p.sat p.dissat w v) (λ ts. k (four_in ts)) s)

  fours-staged : (l r : ℕ) (lw rw : Float) (t : Table) (s : State) →
      asking c pol (side_asks l p.sat p.dissat lw rw)
      (λ ts. asking c pol (side_asks r p.sat p.dissat rw lw) (λ us. or_pairs c p g lw rw (four_in ts) (four_in us) t)) s
      ≡ staged c pol p g (or_asks l r p.sat p.dissat lw rw) (or_pairings lw rw) t s
  unfolding asking pairs four_in
  fours-staged l r lw rw t s = stage_is (or_asks l r p.sat p.dissat lw rw) _ _ t s

  both-sides : (l r : ℕ) (lw rw : Float) (t : Table) (s : State) →
      (then (four_of (searcher c (policy_at pol l)) p lw rw s) λ ls s.
      then (four_of (searcher c (policy_at pol r)) p rw lw s) λ rs s.
      or_pairs c p g lw rw ls rs t s)
      ≡ staged c pol p g (or_asks l r p.sat p.dissat lw rw) (or_pairings lw rw) t s
  both-sides l r lw rw t s =
      four-then l lw rw (λ ls s. then (four_of (searcher c (policy_at pol r)) p rw lw s) λ rs s. or_pairs c p g lw rw ls rs t s) s
      ∙ asking-same c pol (side_asks l p.sat p.dissat lw rw)
      (λ ts s. then (four_of (searcher c (policy_at pol r)) p rw lw s) λ rs s. or_pairs c p g lw rw (four_in ts) rs t s)
      (λ ts. asking c pol (side_asks r p.sat p.dissat rw lw) (λ us. or_pairs c p g lw rw (four_in ts) (four_in us) t)) s
      (λ ts s. four-then r rw lw (λ rs s. or_pairs c p g lw rw (four_in ts) rs t s) s)
      ∙ fours-staged l r lw rw t s

  pub or-staged : (l r : ℕ) (lw rw : Float) (s : State) →
      or_body c (searcher c (policy_at pol l)) (searcher c (policy_at pol r)) lw rw p g s
      ≡ then (and_ors c p g (searcher c (policy_at pol l)) (searcher c (policy_at pol r)) lw rw [] s) λ t s.
      then (and_ors c p g (searcher c (policy_at pol r)) (searcher c (policy_at pol l)) rw lw t s) λ t.
      staged c pol p g (or_asks l r p.sat p.dissat lw rw) (or_pairings lw rw) t
  or-staged l r lw rw s =
      or_body-steps c (searcher c (policy_at pol l)) (searcher c (policy_at pol r)) lw rw p g s
      ∙ then_same (and_ors c p g (searcher c (policy_at pol l)) (searcher c (policy_at pol r)) lw rw [] s) _ _
      (λ t s. then_same (and_ors c p g (searcher c (policy_at pol r)) (searcher c (policy_at pol l)) rw lw t s) _ _
      (λ t s. both-sides l r lw rw t s))
