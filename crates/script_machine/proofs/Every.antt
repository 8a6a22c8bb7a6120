-- Every tree does what its type says.
use Rattle.correctness.specs.declared.TypeError.TheVariants as TypeError
use Rattle.correctness.specs.declared.TypeError.{TypeError}
use Prim.Native.Nat.{ℕ}
use mathlib.Core.List.{List}
use Rattle.std.specs.Prelude.{Option, None, Some, Result, Ok, Err}
use Rattle.types.specs.declared.«Type».{«Type»}
use Rattle.types.specs.TypeRules as rule
use Rattle.contexts.specs.declared.Context.{Context}
use Rattle.contexts.specs.declared.Context.TheVariants.{Segwitv0, Tap}
use Rattle.trees.specs.Fragment.{Fragment, Fragments, end, ◌▹◌, False, True, PkK, PkH, Lock, Hash}
use Rattle.trees.specs.Fragment.{Alt, Swap, Check, DupIf, Verify, NonZero, ZeroNotEqual}
use Rattle.trees.specs.Fragment.{AndB, AndV, OrB, OrD, OrC, OrI, AndOr, Thresh, Multi, MultiA}
use Rattle.trees.specs.Typing.{type_of, types_of, ◌>>=◌, all_typed, and_all, in_segwitv0, in_tap}
use Rattle.script_machine.specs.Machine.{Outcomes, Action}
use Rattle.script_machine.proofs.Meaning.{meaning}
use Rattle.script_machine.proofs.Sound.{Sound, Good}
use Rattle.script_machine.proofs.Leaves.{false-sound, true-sound, pk_k-sound, pk_h-sound, lock-sound, hash-sound, multi-sound, multi_a-sound}
use Rattle.script_machine.proofs.Parents.{alt-good, swap-good, check-good, dup_if-good, verify-good, non_zero-good, zero_not_equal-good}
use Rattle.script_machine.proofs.Parents.{and_b-good, and_v-good, or_b-good, or_d-good, or_c-good, or_i-good, and_or-good}
use Rattle.script_machine.proofs.Threshold.{Each, thresh-good}

-- a rule of one, two or three children that are well-typed
module _ (o : Outcomes) where
  one : (r : Result «Type» TypeError) (k : «Type» → Result «Type» TypeError) (g h : Action) → Good o r g → ((t : «Type») → Sound o t.corr g → Good o (k t) h)
      → Good o (r >>= k) h
  one (Ok t) k g h p f = f t p
  one (Err TypeError.IllTyped) k g h p f = tt

  two : (r s : Result «Type» TypeError) (k : «Type» → «Type» → Result «Type» TypeError) (g h i : Action) → Good o r g → Good o s h
      → ((t u : «Type») → Sound o t.corr g → Sound o u.corr h → Good o (k t u) i)
      → Good o (r >>= λ t. s >>= λ u. k t u) i
  two r s k g h i p q f = one r (λ t. s >>= λ u. k t u) g i p λ t x. one s (k t) h i q λ u y. f t u x y

module _ (c : Context) (o : Outcomes) where
  in-segwit : (d : Context) (t : «Type») (g : Action) → Sound o t.corr g → Good o (in_segwitv0 d t) g
  in-segwit Segwitv0 t g h = h
  in-segwit Tap t g h = tt

  in-tapscript : (d : Context) (t : «Type») (g : Action) → Sound o t.corr g → Good o (in_tap d t) g
  in-tapscript Segwitv0 t g h = tt
  in-tapscript Tap t g h = h

  -- the children of a Thresh
  abbrev EachTyped : Option (List «Type») → Fragments → Type 0
  EachTyped (Some ts) xs = Each c o ts xs
  EachTyped None xs = Unit {0}

  each_more : (r : Result «Type» TypeError) (ts : Option (List «Type»)) (x : Fragment) (xs : Fragments) → Good o r (meaning c o x) → EachTyped ts xs
      → EachTyped (and_all r ts) (x ▹ xs)
  each_more (Ok t) (Some ts) x xs h k = (h, k)
  each_more (Ok t) None x xs h k = tt
  each_more (Err TypeError.IllTyped) ts x xs h k = tt

  thresh : (k : ℕ) (ts : Option (List «Type»)) (xs : Fragments) → EachTyped ts xs
      → Good o (all_typed ts λ ts. rule.threshold k ts) (meaning c o (Thresh k xs))
  thresh k (Some ts) xs h = thresh-good c o k ts xs h
  thresh k None xs h = tt

  mutual
    unfolding type_of types_of

    pub sound : (f : Fragment) → Good o (type_of c f) (meaning c o f)
    sound False = false-sound c o
    sound True = true-sound c o
    sound (PkK n) = pk_k-sound c o n
    sound (PkH n) = pk_h-sound c o n
    sound (Lock kind n) = lock-sound c o kind n
    sound (Hash kind h) = hash-sound c o kind h
    sound (Alt x) = one o (type_of c x) rule.cast_alt (meaning c o x) _ (sound x) λ t. alt-good c o t (meaning c o x)
    sound (Swap x) = one o (type_of c x) rule.cast_swap (meaning c o x) _ (sound x) λ t. swap-good c o t (meaning c o x)
    sound (Check x) = one o (type_of c x) rule.cast_check (meaning c o x) _ (sound x) λ t. check-good c o t (meaning c o x)
    sound (DupIf x) = one o (type_of c x) (rule.cast_dupif c) (meaning c o x) _ (sound x) λ t. dup_if-good c o t (meaning c o x)
    sound (Verify x) = one o (type_of c x) rule.cast_verify (meaning c o x) _ (sound x) λ t. verify-good c o t (meaning c o x)
    sound (NonZero x) = one o (type_of c x) rule.cast_nonzero (meaning c o x) _ (sound x) λ t. non_zero-good c o t (meaning c o x)
    sound (ZeroNotEqual x) = one o (type_of c x) rule.cast_zeronotequal (meaning c o x) _ (sound x) λ t. zero_not_equal-good c o t (meaning c o x)
    sound (AndB x y) = two o (type_of c x) (type_of c y) rule.and_b (meaning c o x) (meaning c o y) _ (sound x) (sound y) λ s t. and_b-good c o s t _ _
    sound (AndV x y) = two o (type_of c x) (type_of c y) rule.and_v (meaning c o x) (meaning c o y) _ (sound x) (sound y) λ s t. and_v-good c o s t _ _
    sound (OrB x y) = two o (type_of c x) (type_of c y) rule.or_b (meaning c o x) (meaning c o y) _ (sound x) (sound y) λ s t. or_b-good c o s t _ _
    sound (OrD x y) = two o (type_of c x) (type_of c y) rule.or_d (meaning c o x) (meaning c o y) _ (sound x) (sound y) λ s t. or_d-good c o s t _ _
    sound (OrC x y) = two o (type_of c x) (type_of c y) rule.or_c (meaning c o x) (meaning c o y) _ (sound x) (sound y) λ s t. or_c-good c o s t _ _
    sound (OrI x y) = two o (type_of c x) (type_of c y) rule.or_i (meaning c o x) (meaning c o y) _ (sound x) (sound y) λ s t. or_i-good c o s t _ _
    sound (AndOr x y z) =
        one o (type_of c x) (λ s. type_of c y >>= λ t. type_of c z >>= λ u. rule.and_or s t u) (meaning c o x) _ (sound x) λ s p.
        two o (type_of c y) (type_of c z) (λ t u. rule.and_or s t u) (meaning c o y) (meaning c o z) _ (sound y) (sound z) λ t u q r.
        and_or-good c o s t u (meaning c o x) (meaning c o y) (meaning c o z) p q r
    sound (Thresh k xs) = thresh k (types_of c xs) xs (sounds xs)
    sound (Multi k keys) = in-segwit c rule.multi (meaning c o (Multi k keys)) (multi-sound c o k keys)
    sound (MultiA k keys) = in-tapscript c rule.multi_a (meaning c o (MultiA k keys)) (multi_a-sound c o k keys)

    sounds : (xs : Fragments) → EachTyped (types_of c xs) xs
    sounds end = tt
    sounds (x ▹ xs) = each_more (type_of c x) (types_of c xs) x xs (sound x) (sounds xs)
