-- BIP 379's translation with combined words is the plain one, once split, and runs alike.
use Prim.Native.Nat.{ℕ}
use mathlib.Core.Bool.{Bool, true, false}
use mathlib.Core.List.{List, [], ◌∷◌, ◌++◌, append_assoc}
use mathlib.Core.Path.{◌≡◌, refl, sym, ◌∙◌, ap}
use Rattle.contexts.specs.declared.Context.{Context}
use Rattle.trees.specs.Fragment.{Fragment, Fragments, end, ◌▹◌, False, True, PkK, PkH, Lock, Hash}
use Rattle.contexts.specs.Leaves.{LockKind, After, Older}
use Rattle.trees.specs.Fragment.{Alt, Swap, Check, DupIf, Verify, NonZero, ZeroNotEqual}
use Rattle.trees.specs.Fragment.{AndB, AndV, OrB, OrD, OrC, OrI, AndOr, Thresh, Multi, MultiA}
use Rattle.script_machine.specs.Words.{Word, <n>, DUP, IFDUP, SWAP, SIZE, TOALTSTACK, FROMALTSTACK, VERIFY}
use Rattle.script_machine.specs.Words.{0NOTEQUAL, BOOLAND, BOOLOR, ADD, IF, NOTIF, ELSE, ENDIF, EQUAL, NUMEQUAL, CHECKSIG, CHECKMULTISIG}
use Rattle.script_machine.specs.Words.{EQUALVERIFY, NUMEQUALVERIFY, CHECKSIGVERIFY, CHECKMULTISIGVERIFY}
use Rattle.script_machine.specs.Machine.{Outcomes, Action, State, aborted, state, all_true, run}
use Rattle.script_machine.specs.Translation.{⟦◌⟧, sum, adds, and_verify, script}
use Rattle.script_machine.specs.Merged.{Test, equal, num_equal, check_sig, check_multi_sig, plain, combined, Form, other, is_plain, is_combined, form}
use Rattle.script_machine.specs.Merged.{verified, merge_verify, parts, split, merged, SplitAlike, RunAlike}
use Rattle.script_machine.proofs.Nested.{Means, run-aborted, run-append, word, ◌⨾◌}

split-append : (xs ys : List Word) → split (xs ++ ys) ≡ split xs ++ split ys
unfolding split
split-append [] ys = refl
split-append (w ∷ xs) ys = rw (split-append xs ys, append_assoc)

-- alike once split
infix 20 ◌~◌
record ◌~◌ (xs ys : List Word) : Type 0 where
  splits : split xs ≡ split ys

alike-by : {xs ys : List Word} → split xs ≡ split ys → xs ~ ys
alike-by e = record { splits = e }

the : (ws : List Word) → ws ~ ws
the ws = alike-by refl

infixl 30 ◌⧺◌
◌⧺◌ : {us vs xs ys : List Word} → us ~ vs → xs ~ ys → us ++ xs ~ vs ++ ys
◌⧺◌ {us} {vs} {xs} {ys} p q = alike-by (rw (split-append us xs, split-append vs ys, p.splits, q.splits))

then : {xs ys zs : List Word} → xs ~ ys → ys ~ zs → xs ~ zs
then p q = alike-by (p.splits ∙ q.splits)

-- VERIFY after a script, as a word or merged into its last
test-verify : (t : Test) → combined t ∷ [] ~ plain t ∷ VERIFY ∷ []
unfolding split form
test-verify equal = alike-by refl
test-verify num_equal = alike-by refl
test-verify check_sig = alike-by refl
test-verify check_multi_sig = alike-by refl

word-verify : (w : Word) (f : Form w) → verified w f ~ w ∷ VERIFY ∷ []
word-verify w other = the (w ∷ VERIFY ∷ [])
word-verify w (is_plain t e) = rw e (test-verify t)
word-verify w (is_combined t e) = the (w ∷ VERIFY ∷ [])

merge-verify : (ws : List Word) → merge_verify ws ~ ws ++ VERIFY ∷ []
unfolding merge_verify split
merge-verify [] = the (VERIFY ∷ [])
merge-verify (w ∷ []) = word-verify w (form w)
merge-verify (w ∷ x ∷ ws) = the (w ∷ []) ⧺ merge-verify (x ∷ ws)

lock-alike : (kind : LockKind) (n : ℕ) → ⟦◌⟧ merge_verify (Lock kind n) ~ ⟦◌⟧ and_verify (Lock kind n)
unfolding ⟦◌⟧
lock-alike After n = the (⟦◌⟧ and_verify (Lock After n))
lock-alike Older n = the (⟦◌⟧ and_verify (Lock Older n))

mutual
  unfolding ⟦◌⟧ sum adds

  alike : (f : Fragment) → ⟦◌⟧ merge_verify f ~ ⟦◌⟧ and_verify f
  alike False = the (⟦◌⟧ and_verify False)
  alike True = the (⟦◌⟧ and_verify True)
  alike (PkK n) = the (⟦◌⟧ and_verify (PkK n))
  alike (PkH n) = the (⟦◌⟧ and_verify (PkH n))
  alike (Lock kind n) = lock-alike kind n
  alike (Hash kind h) = the (⟦◌⟧ and_verify (Hash kind h))
  alike (Alt x) = the (TOALTSTACK ∷ []) ⧺ alike x ⧺ the (FROMALTSTACK ∷ [])
  alike (Swap x) = the (SWAP ∷ []) ⧺ alike x
  alike (Check x) = alike x ⧺ the (CHECKSIG ∷ [])
  alike (DupIf x) = the (DUP ∷ IF ∷ []) ⧺ alike x ⧺ the (ENDIF ∷ [])
  alike (Verify x) = then (merge-verify (⟦◌⟧ merge_verify x)) (alike x ⧺ the (VERIFY ∷ []))
  alike (NonZero x) = the (SIZE ∷ 0NOTEQUAL ∷ IF ∷ []) ⧺ alike x ⧺ the (ENDIF ∷ [])
  alike (ZeroNotEqual x) = alike x ⧺ the (0NOTEQUAL ∷ [])
  alike (AndB x y) = alike x ⧺ alike y ⧺ the (BOOLAND ∷ [])
  alike (AndV x y) = alike x ⧺ alike y
  alike (OrB x y) = alike x ⧺ alike y ⧺ the (BOOLOR ∷ [])
  alike (OrD x y) = alike x ⧺ (the (IFDUP ∷ NOTIF ∷ []) ⧺ alike y) ⧺ the (ENDIF ∷ [])
  alike (OrC x y) = alike x ⧺ (the (NOTIF ∷ []) ⧺ alike y) ⧺ the (ENDIF ∷ [])
  alike (OrI x y) = the (IF ∷ []) ⧺ alike x ⧺ (the (ELSE ∷ []) ⧺ alike y) ⧺ the (ENDIF ∷ [])
  alike (AndOr x y z) = alike x ⧺ (the (NOTIF ∷ []) ⧺ alike z) ⧺ (the (ELSE ∷ []) ⧺ alike y) ⧺ the (ENDIF ∷ [])
  alike (Thresh k xs) = sum_alike xs ⧺ the (<n> k ∷ EQUAL ∷ [])
  alike (Multi k keys) = the (⟦◌⟧ and_verify (Multi k keys))
  alike (MultiA k keys) = the (⟦◌⟧ and_verify (MultiA k keys))

  sum_alike : (xs : Fragments) → sum merge_verify xs ~ sum and_verify xs
  sum_alike end = the []
  sum_alike (x ▹ xs) = alike x ⧺ adds-alike xs

  adds-alike : (xs : Fragments) → adds merge_verify xs ~ adds and_verify xs
  adds-alike end = the []
  adds-alike (x ▹ xs) = alike x ⧺ (the (ADD ∷ []) ⧺ adds-alike xs)

pub split-alike : SplitAlike
unfolding script
split-alike f = (alike f).splits

-- a combined word means its two parts
module _ (c : Context) (o : Outcomes) where
  same-meaning : {xs ys : List Word} {g : Action} → Means c o xs g → Means c o ys g → (s : State) → run c o xs s ≡ run c o ys s
  same-meaning {xs} {ys} p q aborted = run-aborted c o xs ∙ sym (run-aborted c o ys)
  same-meaning {xs} {ys} p q (state m a cs) = go (all_true cs) refl
    where
      go : (b : Bool) → all_true cs ≡ b → run c o xs (state m a cs) ≡ run c o ys (state m a cs)
      go true e = p.live m a cs e ∙ sym (q.live m a cs e)
      go false e = p.skipped m a cs e ∙ sym (q.skipped m a cs e)

  run-combined : (t : Test) (s : State) → run c o (combined t ∷ []) s ≡ run c o (plain t ∷ VERIFY ∷ []) s
  run-combined equal s = same-meaning (word EQUALVERIFY refl) (word EQUAL refl ⨾ word VERIFY refl) s
  run-combined num_equal s = same-meaning (word NUMEQUALVERIFY refl) (word NUMEQUAL refl ⨾ word VERIFY refl) s
  run-combined check_sig s = same-meaning (word CHECKSIGVERIFY refl) (word CHECKSIG refl ⨾ word VERIFY refl) s
  run-combined check_multi_sig s = same-meaning (word CHECKMULTISIGVERIFY refl) (word CHECKMULTISIG refl ⨾ word VERIFY refl) s

  run-parts : (w : Word) (f : Form w) (s : State) → run c o (w ∷ []) s ≡ run c o (parts w f) s
  run-parts w other s = refl
  run-parts w (is_plain t e) s = refl
  run-parts w (is_combined t e) s = rw e (run-combined t s)

  run-split : (ws : List Word) (s : State) → run c o ws s ≡ run c o (split ws) s
  unfolding split
  run-split [] s = refl
  run-split (w ∷ ws) s =
      run-append c o (w ∷ []) ws s
      ∙ ap (λ (z : State). run c o ws z) (run-parts w (form w) s)
      ∙ run-split ws (run c o (parts w (form w)) s)
      ∙ sym (run-append c o (parts w (form w)) (split ws) s)

pub run-alike : RunAlike
run-alike c o f s = run-split c o (merged f) s ∙ ap (λ (ws : List Word). run c o ws s) (split-alike f) ∙ sym (run-split c o (script f) s)
