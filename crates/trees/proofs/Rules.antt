-- The rules by kind give the type of the fragment that a record makes of its children, and an ill-typed child makes it ill-typed.
-- Assumes nothing.
use Rattle.correctness.specs.declared.TypeError.{TypeError}
use Prim.Native.Nat.{ℕ}
use mathlib.Core.Bool.{Bool, true, false, cond}
use mathlib.Core.List.{List, [], ◌∷◌, map}
use Rattle.std.specs.Prelude.{Option, None, Some, Result, Ok, Err}
use mathlib.Core.Path.{◌≡◌, refl, sym, ap, ◌∙◌}
use lib.Dec.{eqb}
use Rattle.records.specs.Payloads.{Payload, number_of, k_of, keys_of}
use Rattle.types.specs.declared.«Type».{«Type»}
use Rattle.types.specs.TypeRules as rule
use Rattle.contexts.specs.declared.Context.{Context}
use Rattle.contexts.specs.Leaves.{After, Older, Sha256, Hash256, Ripemd160, Hash160}
use Rattle.trees.specs.Fragment.{
  Fragment,
  Fragments,
  False,
  True,
  PkK,
  PkH,
  Lock,
  Hash,
  Alt,
  Swap,
  Check,
  DupIf,
  Verify,
  NonZero,
  ZeroNotEqual,
  AndB,
  AndV,
  OrB,
  OrD,
  OrC,
  OrI,
  AndOr,
  Thresh,
  Multi,
  MultiA,
}
use Rattle.trees.specs.Typing.{◌>>=◌, all_typed, and_all, type_of, types_of}
use Rattle.trees.specs.Typing.{in_segwitv0, in_tap}
use Rattle.trees.specs.Reading.{Answer, refused, bad_tree}
use Rattle.trees.specs.Tree.{Line, ◌is◌, find, Maker, plain, with_number, one, two, three, fragments, of_children, of_keys, makers}
use Rattle.trees.specs.TreeCheck.{Typed}
use Rattle.trees.specs.Rules.{Rule, answered, of_none, of_one, of_one_in, of_two, of_three, of_all, always, rules}
use Rattle.trees.proofs.Slots.{All, Any, both, here, there, IfSome}

module _ (c : Context) where
  abbrev pub Good : Typed → Type 0
  Good x = type_of c x.tree ≡ Ok x.type

  abbrev pub Ill : Fragment → Type 0
  Ill f = type_of c f ≡ Err TypeError.IllTyped

  -- the type of a record's own fragment, if there is one
  abbrev pub type_made : Option Fragment → Answer «Type»
  type_made None = refused bad_tree
  type_made (Some f) = answered (type_of c f)

  -- what a maker makes of well-typed children has the type that the rule gives; what it makes of an ill-typed child is ill-typed
  pub record Fits (maker : Maker) (rule : Rule) : Type 0 where
    pub same : (p : Payload) (xs : List Typed) → All Good xs
        → rule c (k_of p) (map (λ x. x.type) xs) ≡ type_made (maker p (map (λ x. x.tree) xs))
    pub ill : (p : Payload) (xs : List Fragment) → Any Ill xs → IfSome Ill (maker p xs)

  abbrev pub FitsIfFound : Option Maker → Option Rule → Type 0
  FitsIfFound (Some m) (Some r) = Fits m r
  FitsIfFound (Some m) None = ⊥
  FitsIfFound None (Some r) = ⊥
  FitsIfFound None None = Unit

  -- two tables with the same kinds, line by line
  data Aligned : List (Line Maker) → List (Line Rule) → Type 0 where
    end : Aligned [] []
    line : {n : ℕ} {m : Maker} {r : Rule} {ms : List (Line Maker)} {rs : List (Line Rule)} → Fits m r → Aligned ms rs
        → Aligned (n is m ∷ ms) (n is r ∷ rs)

  found : {ms : List (Line Maker)} {rs : List (Line Rule)} (kind : ℕ) → Aligned ms rs → FitsIfFound (find kind ms) (find kind rs)
  unfolding find
  found kind end = tt
  found kind (line {n} {m} {r} {ms} {rs} f a) = by-test (eqb kind n) (found kind a)
    where
      by-test : (t : Bool) → FitsIfFound (find kind ms) (find kind rs)
          → FitsIfFound (cond t (Some m) (find kind ms)) (cond t (Some r) (find kind rs))
      by-test true h = f
      by-test false h = h

  -- ---- each form of a record

  -- what is made has the type r, so the rule that answers r is the same
  answer : (f : Fragment) (r : Result «Type» TypeError) → type_of c f ≡ r → answered r ≡ type_made (Some f)
  answer f r e = ap answered (sym e)

  -- an ill-typed second child
  second-ill : (r : Result «Type» TypeError) → (r >>= λ s. (Err TypeError.IllTyped)) ≡ Err TypeError.IllTyped
  second-ill (Ok t) = refl
  second-ill (Err TypeError.IllTyped) = refl

  leaf : (maker : Maker) (f : Payload → Fragment) (r : Context → Result «Type» TypeError) → ((p : Payload) → maker p [] ≡ Some (f p))
      → ((p : Payload) (x : Fragment) (xs : List Fragment) → maker p (x ∷ xs) ≡ None) → ((p : Payload) → type_of c (f p) ≡ r c)
      → Fits maker (of_none r)
  leaf maker f r is_some is_none h = record { same = same; ill = ill }
    where
      same : (p : Payload) (xs : List Typed) → All Good xs
          → of_none r c (k_of p) (map (λ x. x.type) xs) ≡ type_made (maker p (map (λ x. x.tree) xs))
      same p [] g = rw (is_some p) (answer (f p) (r c) (h p))
      same p (x ∷ xs) g = rw (is_none p x.tree (map (λ x. x.tree) xs))

      ill : (p : Payload) (xs : List Fragment) → Any Ill xs → IfSome Ill (maker p xs)
      ill p [] a = elim a [ ]
      ill p (x ∷ xs) a = rw (is_none p x xs) tt

  plain_fits : (f : Fragment) (t : «Type») → type_of c f ≡ Ok t → Fits (plain f) (always t)
  plain_fits f t h = leaf (plain f) (λ p. f) (λ c. Ok t) (λ p. refl) (λ p x xs. refl) (λ p. h)

  number_fits : (f : ℕ → Fragment) (t : «Type») → ((n : ℕ) → type_of c (f n) ≡ Ok t) → Fits (with_number f) (always t)
  number_fits f t h = leaf (with_number f) (λ p. f (number_of p)) (λ c. Ok t) (λ p. refl) (λ p x xs. refl) (λ p. h (number_of p))

  keys-fits : (f : ℕ → List ℕ → Fragment) (r : Context → Result «Type» TypeError) → ((k : ℕ) (ks : List ℕ) → type_of c (f k ks) ≡ r c)
      → Fits (of_keys f) (of_none r)
  keys-fits f r h =
      leaf (of_keys f) (λ p. f (k_of p) (keys_of p)) r (λ p. refl) (λ p x xs. refl) (λ p. h (k_of p) (keys_of p))

  one-fits : (f : Fragment → Fragment) (r : «Type» → Result «Type» TypeError) → ((x : Fragment) → type_of c (f x) ≡ (type_of c x >>= r))
      → Fits (one f) (of_one r)
  one-fits f r h = record { same = same; ill = ill }
    where
      same : (p : Payload) (xs : List Typed) → All Good xs
          → of_one r c (k_of p) (map (λ x. x.type) xs) ≡ type_made (one f p (map (λ x. x.tree) xs))
      same p [] g = refl
      same p (x ∷ []) (both e g) = answer (f x.tree) (r x.type) (h x.tree ∙ rw e)
      same p (x ∷ y ∷ xs) g = refl

      ill : (p : Payload) (xs : List Fragment) → Any Ill xs → IfSome Ill (one f p xs)
      ill p [] a = elim a [ ]
      ill p (x ∷ []) (there x9) = elim x9 [ ]
      ill p (x ∷ []) (here e) = h x ∙ rw e
      ill p (x ∷ y ∷ xs) a = tt

  one-in-fits : (f : Fragment → Fragment) (r : Context → «Type» → Result «Type» TypeError) → ((x : Fragment) → type_of c (f x) ≡ (type_of c x >>= r c))
      → Fits (one f) (of_one_in r)
  one-in-fits f r h = let w = one-fits f (r c) h in record { same = w.same; ill = w.ill }

  two_fits : (f : Fragment → Fragment → Fragment) (r : «Type» → «Type» → Result «Type» TypeError)
      → ((x y : Fragment) → type_of c (f x y) ≡ (type_of c x >>= λ s. type_of c y >>= λ t. r s t)) → Fits (two f) (of_two r)
  two_fits f r h = record { same = same; ill = ill }
    where
      same : (p : Payload) (xs : List Typed) → All Good xs
          → of_two r c (k_of p) (map (λ x. x.type) xs) ≡ type_made (two f p (map (λ x. x.tree) xs))
      same p [] g = refl
      same p (x ∷ []) g = refl
      same p (x ∷ y ∷ []) (both e (both e' g)) = answer (f x.tree y.tree) (r x.type y.type) (h x.tree y.tree ∙ rw (e, e'))
      same p (x ∷ y ∷ z ∷ xs) g = refl

      ill : (p : Payload) (xs : List Fragment) → Any Ill xs → IfSome Ill (two f p xs)
      ill p [] a = elim a [ ]
      ill p (x ∷ (y ∷ [])) (there (there x15)) = elim x15 [ ]
      ill p (x ∷ []) a = tt
      ill p (x ∷ y ∷ []) (here e) = h x y ∙ rw e
      ill p (x ∷ y ∷ []) (there (here e)) = h x y ∙ rw e (second-ill (type_of c x))
      ill p (x ∷ y ∷ z ∷ xs) a = tt

  three-fits : (f : Fragment → Fragment → Fragment → Fragment) (r : «Type» → «Type» → «Type» → Result «Type» TypeError)
      → ((x y z : Fragment) → type_of c (f x y z) ≡ (type_of c x >>= λ s. type_of c y >>= λ t. type_of c z >>= λ u. r s t u))
      → Fits (three f) (of_three r)
  three-fits f r h = record { same = same; ill = ill }
    where
      same : (p : Payload) (xs : List Typed) → All Good xs
          → of_three r c (k_of p) (map (λ x. x.type) xs) ≡ type_made (three f p (map (λ x. x.tree) xs))
      same p [] g = refl
      same p (x ∷ []) g = refl
      same p (x ∷ y ∷ []) g = refl
      same p (x ∷ y ∷ z ∷ []) (both e (both e' (both e'' g))) =
          answer (f x.tree y.tree z.tree) (r x.type y.type z.type)
          (h x.tree y.tree z.tree ∙ rw (e, e', e''))
      same p (x ∷ y ∷ z ∷ w ∷ xs) g = refl

      ill : (p : Payload) (xs : List Fragment) → Any Ill xs → IfSome Ill (three f p xs)
      ill p [] a = elim a [ ]
      ill p (x ∷ (y ∷ (z ∷ []))) (there (there (there x21))) = elim x21 [ ]
      ill p (x ∷ []) a = tt
      ill p (x ∷ y ∷ []) a = tt
      ill p (x ∷ y ∷ z ∷ []) (here e) = h x y z ∙ rw e
      ill p (x ∷ y ∷ z ∷ []) (there (here e)) = h x y z ∙ rw e (second-ill (type_of c x))
      ill p (x ∷ y ∷ z ∷ []) (there (there (here e))) =
          h x y z ∙ rw e (ap (λ (r : Result «Type» TypeError). type_of c x >>= λ s. r) (second-ill (type_of c y)) ∙ second-ill (type_of c x))
      ill p (x ∷ y ∷ z ∷ w ∷ xs) a = tt

  -- the types of all children of a Thresh
  types-good : (xs : List Typed) → All Good xs → types_of c (fragments (map (λ x. x.tree) xs)) ≡ Some (map (λ x. x.type) xs)
  unfolding fragments types_of
  types-good [] g = refl
  types-good (x ∷ xs) (both e g) = rw (e, types-good xs g)

  types-ill : (xs : List Fragment) → Any Ill xs → types_of c (fragments xs) ≡ None
  unfolding fragments types_of
  types-ill [] x' = elim x' [ ]
  types-ill (x ∷ xs) (here e) = rw e
  types-ill (x ∷ xs) (there a) = rw (types-ill xs a) (by_first (type_of c x))
    where
      by_first : (r : Result «Type» TypeError) → and_all r None ≡ None
      by_first (Ok t) = refl
      by_first (Err TypeError.IllTyped) = refl

  thresh : (k : ℕ) (xs : Fragments) → type_of c (Thresh k xs) ≡ all_typed (types_of c xs) (λ ts. rule.threshold k ts)
  unfolding type_of
  thresh k xs = refl

  thresh-fits : Fits (of_children Thresh) (of_all rule.threshold)
  thresh-fits = record { same = same; ill = ill }
    where
      same : (p : Payload) (xs : List Typed) → All Good xs
          → of_all rule.threshold c (k_of p) (map (λ x. x.type) xs)
          ≡ type_made (of_children Thresh p (map (λ x. x.tree) xs))
      same p xs g =
          answer (Thresh (k_of p) (fragments (map (λ x. x.tree) xs))) (rule.threshold (k_of p) (map (λ x. x.type) xs))
          (thresh (k_of p) (fragments (map (λ x. x.tree) xs)) ∙ rw (types-good xs g))

      ill : (p : Payload) (xs : List Fragment) → Any Ill xs → IfSome Ill (of_children Thresh p xs)
      ill p xs a = thresh (k_of p) (fragments xs) ∙ rw (types-ill xs a)

  aligned : Aligned makers rules
  unfolding type_of
  aligned =
      line (plain_fits False rule.FALSE refl) (line (plain_fits True rule.TRUE refl)
      (line (number_fits PkK rule.pk_k λ n. refl) (line (number_fits PkH rule.pk_h λ n. refl)
      (line (number_fits (Lock After) rule.time λ n. refl) (line (number_fits (Lock Older) rule.time λ n. refl)
      (line (number_fits (Hash Sha256) rule.hash λ n. refl) (line (number_fits (Hash Hash256) rule.hash λ n. refl) (line (number_fits (Hash Ripemd160) rule.hash λ n. refl) (line (number_fits (Hash Hash160) rule.hash λ n. refl)
      (line (one-fits Alt rule.cast_alt λ x. refl) (line (one-fits Swap rule.cast_swap λ x. refl) (line (one-fits Check rule.cast_check λ x. refl) (line (one-in-fits DupIf rule.cast_dupif λ x. refl)
      (line (one-fits Verify rule.cast_verify λ x. refl) (line (one-fits NonZero rule.cast_nonzero λ x. refl) (line (one-fits ZeroNotEqual rule.cast_zeronotequal λ x. refl)
      (line (two_fits AndB rule.and_b λ x y. refl) (line (two_fits AndV rule.and_v λ x y. refl) (line (two_fits OrB rule.or_b λ x y. refl)
      (line (two_fits OrD rule.or_d λ x y. refl) (line (two_fits OrC rule.or_c λ x y. refl) (line (two_fits OrI rule.or_i λ x y. refl)
      (line (three-fits AndOr rule.and_or λ x y z. refl) (line thresh-fits
      (line (keys-fits Multi (λ c. in_segwitv0 c rule.multi) λ k ks. refl) (line (keys-fits MultiA (λ c. in_tap c rule.multi_a) λ k ks. refl) end))))))))))))))))))))))))))

  -- the rule of a kind fits what the kind's record makes
  pub fits : (kind : ℕ) → FitsIfFound (find kind makers) (find kind rules)
  fits kind = found kind aligned
