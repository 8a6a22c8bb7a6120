-- The fragments with no child do what their types say.
use Prim.Native.Nat.{ℕ, ◌+◌}
use native.Mathlib.Omega.{arith}
use mathlib.Core.Bool.{Bool, true, false, false≢true}
use mathlib.Core.List.{List, [], ◌∷◌, ◌++◌}
use mathlib.Core.Logic.{inl, inr}
use mathlib.Core.Path.{◌≡◌, refl, sym}
use lib.IntN.{pos}
use lib.ListN.{length, length-append}
use Rattle.correctness.specs.declared.Base.TheVariants.{B}
use Rattle.correctness.specs.declared.Input.TheVariants.{Any}
use Rattle.types.specs.TypeRules as rule
use Rattle.contexts.specs.declared.Context.{Context}
use Rattle.trees.specs.Fragment.{False, True, PkK, PkH, Lock, Hash, Multi, MultiA}
use Rattle.contexts.specs.Leaves.{HashKind, LockKind, After, Older}
use Rattle.script_machine.specs.Numbers.{Bytes, Stack, is_true, element, write, digits, signed}
use Rattle.script_machine.specs.Machine.{Outcomes, Result, Action, pop_many, check_sig_add, ◌then◌}
use Rattle.script_machine.proofs.Meaning.{meaning, keys_pushed, sigs_added}
use Rattle.script_machine.proofs.Outcome.{Out, ret, split, many, ok_out, ok-then, weaken, same_out}
use Rattle.script_machine.proofs.Round.{read-write, same-eq}
use Rattle.script_machine.proofs.Sound.{t_b, t_k, Post, post, Sound, any, tested, seq-B}

element-true : (b : Bool) → is_true (element b) ≡ true → b ≡ true
unfolding is_true element
element-true true e = refl
element-true false e = absurd (false≢true e)

module _ (c : Context) (o : Outcomes) where
  pub false-sound : Sound o (rule.FALSE).corr (meaning c o False)
  unfolding write digits signed
  false-sound = ret ([] ∷ []) (post (refl, refl) (t_b [] (λ e. inl refl))) λ r a. refl

  pub true-sound : Sound o (rule.TRUE).corr (meaning c o True)
  unfolding write digits signed
  true-sound = ret ((1 ∷ []) ∷ []) (post (refl, refl) (t_b (1 ∷ []) (λ e. inr refl))) λ r a. refl

  pub pk_k-sound : (n : ℕ) → Sound o (rule.pk_k).corr (meaning c o (PkK n))
  pk_k-sound n = ret (o.key n ∷ []) (post refl (t_k (o.key n) (inl (n, refl)))) λ r a. refl

  pub pk_h-sound : (n : ℕ) → Sound o (rule.pk_h).corr (meaning c o (PkH n))
  pk_h-sound n = split (λ a. refl) λ x r.
      ok_out _ λ e. ret (x ∷ []) (post (omega arith) (t_k x (inr (n, sym (same-eq _ _ (element-true _ e)))))) (λ r a. refl) r

  pub lock-sound : (kind : LockKind) (n : ℕ) → Sound o (rule.time).corr (meaning c o (Lock kind n))
  lock-sound After n s = ok_out _ λ _. ok_out _ λ _. ret (_ ∷ []) (post (refl, refl) (t_b _ any)) (λ r a. refl) s
  lock-sound Older n s = ok_out _ λ _. ok_out _ λ _. ret (_ ∷ []) (post (refl, refl) (t_b _ any)) (λ r a. refl) s

  pub hash-sound : (kind : HashKind) (h : ℕ) → Sound o (rule.hash).corr (meaning c o (Hash kind h))
  hash-sound kind h = split (λ a. refl) λ x r. ok-then _ _ _ λ _. ret (_ ∷ []) (tested _ refl) (λ r a. refl) r

  -- Multi: its keys are pushed, then CHECKMULTISIG takes them, the signatures and one more
  abbrev onto : List ℕ → Stack → Stack
  onto [] m = m
  onto (n ∷ ns) m = onto ns (o.key n ∷ m)

  keys-onto : (h : Action) (ns : List ℕ) (m a : Stack) → (keys_pushed c o ns then h) m a ≡ h (onto ns m) a
  keys-onto h [] m a = refl
  keys-onto h (n ∷ ns) m a = keys-onto h ns (o.key n ∷ m) a

  onto-append : (ns : List ℕ) (xs m : Stack) → onto ns (xs ++ m) ≡ onto ns xs ++ m
  onto-append [] xs m = refl
  onto-append (n ∷ ns) xs m = onto-append ns (o.key n ∷ xs) m

  onto-length : (ns : List ℕ) (xs : Stack) → length ns + length xs ≡ length (onto ns xs)
  onto-length [] xs = omega arith
  onto-length (n ∷ ns) xs = omega (arith, onto-length ns (o.key n ∷ xs))

  many-append : (xs m : Stack) (k : Stack → Stack → Result) → pop_many (length xs) (xs ++ m) k ≡ k xs m
  many-append [] m k = refl
  many-append (x ∷ xs) m k = many-append xs m (λ ys r. k (x ∷ ys) r)

  many-onto : (ns : List ℕ) (m : Stack) (k : Stack → Stack → Result) → pop_many (length ns) (onto ns m) k ≡ k (onto ns []) m
  many-onto ns m k =
      let e : length ns ≡ length (onto ns []) = omega (arith, onto-length ns []) in
      rw (e, onto-append ns [] m) (many-append (onto ns []) m k)

  pub multi-sound : (k : ℕ) (ns : List ℕ) → Sound o (rule.multi).corr (meaning c o (Multi k ns))
  multi-sound k ns s =
      same_out (λ s a. keys-onto _ ns (write (pos k) ∷ s) a)
      (ok_out _ λ _. rw (read-write (length ns))
      (same_out (λ s a. many-onto ns (write (pos k) ∷ s) _)
      (ok_out _ λ _. rw (read-write k)
      (many k (λ xs. split (λ a. refl) λ z r. ok_out _ λ _. ret (_ ∷ []) (tested _ (omega (arith, length-append xs (z ∷ [])))) (λ r a. refl) r) s))))

  -- MultiA: y is the sum so far
  sig-out : (key y : Bytes) (s : Stack) → Out (λ s a. check_sig_add o.signs (key ∷ y ∷ s) a) (Post o B Any false) s
  sig-out key y = split (λ a. refl) λ x r. ok_out _ λ _. ret (_ ∷ []) (post tt (t_b _ any)) (λ r a. refl) r

  sigs-out : (ns : List ℕ) (y : Bytes) (s : Stack) → Out (λ s a. sigs_added c o ns (y ∷ s) a) (Post o B Any false) s
  sigs-out [] y s = ret (y ∷ []) (post tt (t_b y any)) (λ r a. refl) s
  sigs-out (n ∷ ns) y s = seq-B (sigs_added c o ns) (sig-out (o.key n) y s) λ xs z l v r. weaken (sigs-out ns z r) λ zs ws w. post tt w.top

  pub multi_a-sound : (k : ℕ) (ns : List ℕ) → Sound o (rule.multi_a).corr (meaning c o (MultiA k ns))
  multi_a-sound k [] = split (λ a. refl) λ y r. ok_out _ λ _. ok_out _ λ _. ret (_ ∷ []) (tested _ tt) (λ r a. refl) r
  multi_a-sound k (n ∷ ns) = split (λ a. refl) λ x r. seq-B _ (sigs-out ns _ r) λ xs y l v r.
      ok_out _ λ _. ok_out _ λ _. ret (_ ∷ []) (tested _ tt) (λ r a. refl) r
