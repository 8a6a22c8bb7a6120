-- Nothing better was thrown away (specs/NothingBetter.antt). What a candidate is turned away or dropped for is an order: `beats` is transitive, and of
-- two candidates of one key, or of one and itself, one beats the other.
use mathlib.Core.Bool.{Bool, true, false, cond, not, ◌&&◌, true≢false}
use mathlib.Core.List.{List, [], ◌∷◌}
use mathlib.Core.Path.{◌≡◌, refl, sym, ap, subst, ◌∙◌}
use mathlib.Core.Logic.{◌⊎◌, inl, inr, ⊎_elim}
use Prim.Native.Nat.{ℕ, suc}
use native.Mathlib.Omega.{arith}
use borrow.Author.Tests.{not-true, not-false}
use lib.Dec.{T, leb}
use lib.Ieee.Bits.{is_true}
use lib.ListN.{length}
use Rattle.contexts.specs.declared.Context.{Context}
use Rattle.contexts.proofs.Bools.{and_l, and_r, and_i}
use Rattle.costs.specs.declared.Price.{Price}
use Rattle.costs.specs.Price.{is_price, at_most}
use Rattle.costs.proofs.PriceLaws.{at-most-total, at-most-trans}
use Rattle.type_laws.proofs.SubtypeLaws.{sub_trans}
use Rattle.types.specs.Subtype.{type_sub}
use Rattle.definition.specs.Candidates.{Candidate}
use Rattle.definition.specs.Tables.{Probs, Table, cost_at, free_verify, same_bool, key_sub, key_before, enter}
use Rattle.definition.specs.Refusals.{State, state, Res, done, refused, M, then, accept, max_accepted, max_entries}
use Rattle.definition.specs.Insertion.{any, filter, worthwhile, beats, Offered, insert}
use Rattle.definition_laws.specs.Laws as laws
use Rattle.definition_laws.specs.Laws.{All, ◌and◌}
use Rattle.definition_laws.specs.NothingBetter.{offers, SomeOf, here, later, AnyTwo, nobody, first, SameKey, NothingBetter, NothingThrownAway}
use Rattle.definition_laws.proofs.Keys.{key-self}
use Rattle.definition_laws.proofs.Steps.{unbeaten, offered, insert-unworthy, insert-costless, insert-beaten, insert-table-full, insert-nodes-full}
use Rattle.definition_laws.proofs.Steps.{insert-enters}
use Rattle.definition_laws.proofs.Sorting.{all_map, all_both, all_filter, filter-holds, none-does, all-enter}

-- ---- the order of costs

cost-trans : (a b c : Price) → at_most a b ≡ true → at_most b c ≡ true → at_most a c ≡ true
cost-trans a b c h k = is_true _ (at-most-trans a b c (holds _ h) (holds _ k))
  where
    holds : (b : Bool) → b ≡ true → T b
    holds true h = tt
    holds false h = absurd (true≢false (sym h))

cost-total : (a b : Price) → is_price a ≡ true → is_price b ≡ true → (at_most a b ≡ true) ⊎ (at_most b a ≡ true)
cost-total a b p q = ⊎_elim (λ h. inl (is_true _ h)) (λ h. inr (is_true _ h)) (at-most-total a b p q)

-- ---- the order of candidates

same-trans : (a b c : Bool) → same_bool a b ≡ true → same_bool b c ≡ true → same_bool a c ≡ true
same-trans true true c h k = k
same-trans true false c h k = absurd (true≢false (sym h))
same-trans false true c h k = absurd (true≢false (sym h))
same-trans false false c h k = k

sub-key-trans : (x y z : Candidate) → key_sub x y ≡ true → key_sub y z ≡ true → key_sub x z ≡ true
sub-key-trans x y z h k =
    and_i _ _
    (sub_trans x.ty y.ty z.ty (and_l _ (same_bool (free_verify x) (free_verify y)) h) (and_l _ (same_bool (free_verify y) (free_verify z)) k))
    (same-trans (free_verify x) (free_verify y) (free_verify z) (and_r (type_sub x.ty y.ty) _ h) (and_r (type_sub y.ty z.ty) _ k))

beats-trans : (p : Probs) (x y z : Candidate) → beats p x y ≡ true → beats p y z ≡ true → beats p x z ≡ true
beats-trans p x y z h k =
    and_i _ _
    (sub-key-trans x y z (and_l _ (at_most (cost_at p x) (cost_at p y)) h) (and_l _ (at_most (cost_at p y) (cost_at p z)) k))
    (cost-trans (cost_at p x) (cost_at p y) (cost_at p z) (and_r (key_sub x y) _ h) (and_r (key_sub y z) _ k))

-- of two candidates of one key one beats the other, if their costs can be compared
one-beats : (p : Probs) (x y : Candidate) → is_price (cost_at p x) ≡ true → is_price (cost_at p y) ≡ true → SameKey x y →
    (beats p x y ≡ true) ⊎ (beats p y x ≡ true)
one-beats p x y i j k =
    ⊎_elim (λ h. inl (and_i _ _ (key-self x y k.0 k.1) h)) (λ h. inr (and_i _ _ (key-self y x (sym k.0) (sym k.1)) h))
    (cost-total (cost_at p x) (cost_at p y) i j)

beats-self : (p : Probs) (x : Candidate) → is_price (cost_at p x) ≡ true → beats p x x ≡ true
beats-self p x i = ⊎_elim (λ h. h) (λ h. h) (one-beats p x x i i (refl, refl))

-- ---- one entry, and any two, of a table that entries leave and enter

some-map : {P Q : Candidate → Type 0} {t : Table} → ((x : Candidate) → P x → Q x) → SomeOf P t → SomeOf Q t
some-map f (here {x} h) = here (f x h)
some-map f (later h) = later (some-map f h)

pub some-found : (q : Candidate → Bool) (t : Table) → any q t ≡ true → SomeOf (λ x. q x ≡ true) t
unfolding any
some-found q [] h = absurd (true≢false (sym h))
some-found q (x ∷ xs) h = by-test (q x) refl h (some-found q xs)
  where
    by-test : (b : Bool) → q x ≡ b → cond b true (any q xs) ≡ true → (any q xs ≡ true → SomeOf (λ y. q y ≡ true) xs) →
        SomeOf (λ y. q y ≡ true) (x ∷ xs)
    by-test true e h r = here e
    by-test false e h r = later (r h)

-- an entry is left, or it was dropped
some_left : {P : Candidate → Type 0} (q : Candidate → Bool) {t : Table} → SomeOf P t → SomeOf P (filter q t) ⊎ SomeOf (λ x. P x × (q x ≡ false)) t
unfolding filter
some_left {P} q (here {x} {xs} h) = by-test (q x) refl
  where
    by-test : (b : Bool) → q x ≡ b → SomeOf P (cond b (x ∷ filter q xs) (filter q xs)) ⊎ SomeOf (λ x. P x × (q x ≡ false)) (x ∷ xs)
    by-test true e = inl (here h)
    by-test false e = inr (here (h, e))
some_left {P} q (later {x} {xs} h) = ⊎_elim (λ k. inl (by-test (q x) k)) (λ k. inr (later k)) (some_left q h)
  where
    by-test : (b : Bool) → SomeOf P (filter q xs) → SomeOf P (cond b (x ∷ filter q xs) (filter q xs))
    by-test true k = later k
    by-test false k = k

some-enter : {P : Candidate → Type 0} (x : Candidate) {t : Table} → SomeOf P t → SomeOf P (enter x t)
unfolding enter
some-enter {P} x (here {x = e} {xs = es} h) = by-test (key_before e x)
  where
    by-test : (b : Bool) → SomeOf P (cond b (e ∷ enter x es) (x ∷ e ∷ es))
    by-test true = here h
    by-test false = later (here h)
some-enter {P} x (later {x = e} {xs = es} h) = by-test (key_before e x) (some-enter x h)
  where
    by-test : (b : Bool) → SomeOf P (enter x es) → SomeOf P (cond b (e ∷ enter x es) (x ∷ e ∷ es))
    by-test true k = later k
    by-test false k = later (later h)

some-entered : {P : Candidate → Type 0} (x : Candidate) (t : Table) → P x → SomeOf P (enter x t)
unfolding enter
some-entered x [] h = here h
some-entered {P} x (e ∷ es) h = by-test (key_before e x) (some-entered x es h)
  where
    by-test : (b : Bool) → SomeOf P (enter x es) → SomeOf P (cond b (e ∷ enter x es) (x ∷ e ∷ es))
    by-test true k = later k
    by-test false k = here h

two-filter : {R : Candidate → Candidate → Type 0} (q : Candidate → Bool) {t : Table} → AnyTwo R t → AnyTwo R (filter q t)
unfolding filter
two-filter q nobody = nobody
two-filter {R} q (first {x} {xs} h hs) = by-test (q x) (two-filter q hs)
  where
    by-test : (b : Bool) → AnyTwo R (filter q xs) → AnyTwo R (cond b (x ∷ filter q xs) (filter q xs))
    by-test true r = first (all_filter q h) r
    by-test false r = r

two-enter : {R : Candidate → Candidate → Type 0} (x : Candidate) {t : Table} → All (λ y. R x y × R y x) t → AnyTwo R t → AnyTwo R (enter x t)
unfolding enter
two-enter x laws.nobody nobody = first laws.nobody nobody
two-enter {R} x (g and gs) (first {x = e} {xs = es} h hs) = by-test (key_before e x) (two-enter x gs hs)
  where
    by-test : (b : Bool) → AnyTwo R (enter x es) → AnyTwo R (cond b (e ∷ enter x es) (x ∷ e ∷ es))
    by-test true r = first (all-enter x (g.1, g.0) h) r
    by-test false r = first (g and gs) (first h hs)

-- ---- one offer

done-same : {A : Type 0} {a b : A} {s s' : State} → done a s ≡ done b s' → a ≡ b
done-same h = cc

-- what an offer leaves of a table
pub data Left (c : Context) (p : Probs) (x : Candidate) (t : Table) : Table → Type 0 where
  unworthy : worthwhile c x ≡ false → Left c p x t t
  beaten : any (λ e. beats p e x) t ≡ true → Left c p x t t
  enters : is_price (cost_at p x) ≡ true → any (λ e. beats p e x) t ≡ false → Left c p x t (enter x (unbeaten p x t))

module _ (c : Context) (p : Probs) (x : Candidate) (t : Table) (s s' : State) (o : Offered) where
  insert-left : insert c p x t s ≡ done o s' → Left c p x t o.table
  insert-left h = by-worth (worthwhile c x) refl
    where
      leaves : {u : Table} {b : Bool} {s'' : State} → insert c p x t s ≡ done (offered u b) s'' → Left c p x t u → Left c p x t o.table
      leaves e l = subst (λ v. Left c p x t v) (ap (λ (o : Offered). o.table) (done-same (sym e ∙ h))) l

      refuses : {n : ℕ} → insert c p x t s ≡ refused n → Left c p x t o.table
      refuses e = let z : ◌≡◌ {A = ℕ} 0 1 = cc in absurd (omega (arith, z))

      by_count : is_price (cost_at p x) ≡ true → any (λ e. beats p e x) t ≡ false → worthwhile c x ≡ true →
          leb (suc (length (unbeaten p x t))) max_entries ≡ true → (b : Bool) → leb (suc s.accepted) max_accepted ≡ b → Left c p x t o.table
      by_count i a w l true n = leaves (insert-enters c p x t s w i a l n) (enters i a)
      by_count i a w l false n = refuses (insert-nodes-full c p x t s w i a l n)

      by_length : is_price (cost_at p x) ≡ true → any (λ e. beats p e x) t ≡ false → worthwhile c x ≡ true →
          (b : Bool) → leb (suc (length (unbeaten p x t))) max_entries ≡ b → Left c p x t o.table
      by_length i a w true l = by_count i a w l _ refl
      by_length i a w false l = refuses (insert-table-full c p x t s w i a l)

      by-table : is_price (cost_at p x) ≡ true → worthwhile c x ≡ true → (b : Bool) → any (λ e. beats p e x) t ≡ b → Left c p x t o.table
      by-table i w true a = leaves (insert-beaten c p x t s w i a) (beaten a)
      by-table i w false a = by_length i a w _ refl

      by-cost : worthwhile c x ≡ true → (b : Bool) → is_price (cost_at p x) ≡ b → Left c p x t o.table
      by-cost w true i = by-table i w _ refl
      by-cost w false i = refuses (insert-costless c p x t s w i)

      by-worth : (b : Bool) → worthwhile c x ≡ b → Left c p x t o.table
      by-worth true w = by-cost w _ refl
      by-worth false w = leaves (insert-unworthy c p x t s w) (unworthy w)

-- some entry is a subtype of a candidate at the same or a lower cost
abbrev pub Met : Probs → Candidate → Table → Type 0
Met p y t = SomeOf (λ e. beats p e y ≡ true) t

-- the costs of all entries can be compared, and none beats another
record Fine (p : Probs) (t : Table) : Type 0 where
  costs : All (λ e. is_price (cost_at p e) ≡ true) t
  none_beaten : AnyTwo (λ x y. beats p x y ≡ false) t

module _ {c : Context} {p : Probs} {x : Candidate} where
  left-fine : {t u : Table} → Left c p x t u → Fine p t → Fine p u
  left-fine (unworthy w) f = f
  left-fine (beaten b) f = f
  left-fine {t} (enters i a) f = record {
    costs = all-enter x i (all_filter _ f.costs);
    none_beaten = two-enter x
        (all_map (λ e h. (not-true _ h.1, h.0))
        (all_both (all_filter _ (none-does _ t a)) (filter-holds (λ e. not (beats p x e)) t))) (two-filter _ f.none_beaten);
  }

  -- what an entry met is met still: by the same entry, or by the one that it was dropped for
  pub left-met : {t u : Table} → Left c p x t u → (y : Candidate) → Met p y t → Met p y u
  left-met (unworthy w) y h = h
  left-met (beaten b) y h = h
  left-met (enters i a) y h =
      ⊎_elim (λ k. some-enter x k) (λ k. some-entered x _ (dropped k)) (some_left (λ e. not (beats p x e)) h)
    where
      dropped : {t : Table} → SomeOf (λ e. (beats p e y ≡ true) × (not (beats p x e) ≡ false)) t → beats p x y ≡ true
      dropped (here {x = e} k) = beats-trans p x e y (not-false _ k.1) k.0
      dropped (later k) = dropped k

  pub left-offered : {t u : Table} → Left c p x t u → worthwhile c x ≡ true → Met p x u
  left-offered (unworthy w) h = absurd (true≢false (sym h ∙ w))
  left-offered {t} (beaten b) h = some-found _ t b
  left-offered (enters i a) h = some-entered x _ (beats-self p x i)

-- ---- offers in turn

record After (c : Context) (p : Probs) (xs : List Candidate) (t u : Table) : Type 0 where
  fine : Fine p u
  kept : (y : Candidate) → Met p y t → Met p y u
  met : All (λ x. worthwhile c x ≡ true → Met p x u) xs

offers-after : (c : Context) (p : Probs) (xs : List Candidate) (t : Table) (s s' : State) (u : Table) → Fine p t →
    offers c p xs t s ≡ done u s' → After c p xs t u
unfolding offers then
offers-after c p [] t s s' u f h = subst (λ u. After c p [] t u) (done-same h) (record { fine = f; kept = λ y k. k; met = laws.nobody })
offers-after c p (x ∷ xs) t s s' u f h = by_answer (insert c p x t s) refl h (λ t s. offers-after c p xs t s s' u)
  where
    by_answer : (r : Res Offered) → insert c p x t s ≡ r → then r (λ o. offers c p xs o.table) ≡ done u s' →
        ((t : Table) (s : State) → Fine p t → offers c p xs t s ≡ done u s' → After c p xs t u) → After c p (x ∷ xs) t u
    by_answer (done o s'') e h rest =
        let l : Left c p x t o.table = insert-left c p x t s s'' o e in
        let a = rest o.table s'' (left-fine l f) h in
        record { fine = a.fine; kept = λ y k. a.kept y (left-met l y k); met = (λ w. a.kept x (left-offered l w)) and a.met }
    by_answer (refused n) e h rest = let z : ◌≡◌ {A = ℕ} 0 1 = cc in absurd (omega (arith, z))

-- where none beats another, no two have one key
one-of-a-key : (p : Probs) {t : Table} → All (λ e. is_price (cost_at p e) ≡ true) t → AnyTwo (λ x y. beats p x y ≡ false) t →
    AnyTwo (λ x y. SameKey x y → ⊥) t
one-of-a-key p laws.nobody nobody = nobody
one-of-a-key p (◌and◌ {x} i is) (first h hs) =
    first (all_map (λ y k. (other x y i k.0 k.1, other y x k.0 i (k.1.1, k.1.0))) (all_both is h)) (one-of-a-key p is hs)
  where
    other : (x y : Candidate) → is_price (cost_at p x) ≡ true → is_price (cost_at p y) ≡ true → (beats p x y ≡ false) × (beats p y x ≡ false) →
        SameKey x y → ⊥
    other x y i j n k = ⊎_elim (λ h. true≢false (sym h ∙ n.0)) (λ h. true≢false (sym h ∙ n.1)) (one-beats p x y i j k)

pub nothing-thrown-away : NothingThrownAway
nothing-thrown-away c p xs s s' t h =
    let a = offers-after c p xs [] s s' t (record { costs = laws.nobody; none_beaten = nobody }) h in
    record {
      none_beaten = a.fine.none_beaten;
      comparable = a.fine.costs;
      all_met = a.met;
      one_of_a_key = one-of-a-key p a.fine.costs a.fine.none_beaten;
    }
