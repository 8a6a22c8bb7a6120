-- The nested run of a fragment is the run of its script, word by word.
use Prim.Native.Nat.{ℕ, ◌+◌, ◌≤◌}
use native.Mathlib.Omega.{arith}
use mathlib.Core.Bool.{Bool, true, false, not, ◌&&◌, cond, false≢true}
use mathlib.Core.List.{List, [], ◌∷◌, ◌++◌, map, append_assoc}
use Rattle.std.specs.Prelude.{Option, None, Some}
use mathlib.Core.Path.{◌≡◌, refl, sym, ◌∙◌, ap}
use borrow.Author.Tests.{le-leb, leb-true}
use lib.Dec.{leb}
use lib.ListN.{length}
use Rattle.contexts.specs.Leaves.{LockKind, After, Older, Hash160}
use Rattle.contexts.specs.declared.Context.{Context}
use Rattle.trees.specs.Fragment.{Fragment, Fragments, end, ◌▹◌, False, True, PkK, PkH, Lock, Hash}
use Rattle.trees.specs.Fragment.{Alt, Swap, Check, DupIf, Verify, NonZero, ZeroNotEqual}
use Rattle.trees.specs.Fragment.{AndB, AndV, OrB, OrD, OrC, OrI, AndOr, Thresh, Multi, MultiA}
use Rattle.script_machine.specs.Numbers.{Bytes, Stack, is_true}
use Rattle.script_machine.specs.Words.{Word, <n>, <key>, <keyhash>, <h>, DUP, IFDUP, SWAP, SIZE, TOALTSTACK, FROMALTSTACK, VERIFY, HASH}
use Rattle.script_machine.specs.Words.{CHECKLOCKTIMEVERIFY, CHECKSEQUENCEVERIFY, 0NOTEQUAL, BOOLAND, BOOLOR, ADD, IF, NOTIF, ELSE, ENDIF}
use Rattle.script_machine.specs.Words.{EQUAL, NUMEQUAL, CHECKSIG, CHECKMULTISIG, CHECKSIGADD, EQUALVERIFY}
use Rattle.script_machine.specs.Machine.{Outcomes, Result, abort, done, Action, Effect, works, opens, effect, State, aborted, state, all_true, under, step, may_branch}
use Rattle.script_machine.specs.Translation.{⟦◌⟧, and_verify, script, sum, adds, sig_sum, sig_adds}
use Rattle.script_bytes.specs.Tables.{Tables}
use Rattle.spend_machine.specs.Entries.{Outcome, yes}
use Rattle.spend_machine.specs.Recorded.{Question, suits, fits, within, Run, stands, stuck, large, believing, step_believing, taking, asking, asks}
use Rattle.spend_machine.specs.Recorded.{questioned, recorded_step, recorded_run}
use Rattle.spend_machine.proofs.FixedOutcomes.{stays-aborted, stays-stuck, stays-large}
use Rattle.spend_machine.specs.Playing as Playing
use Rattle.spend_machine.specs.Playing.{top_true, opened, time_word, plays, summed, added, keys_pushed, sigs_added, sigs_summed}

-- no condition is open, and there are not too many elements
abbrev pub Plain : Run → Type 0
Plain (stands aborted rs) = Unit
Plain (stands (state m a []) rs) = length m + length a ≤ 4096
Plain (stands (state m a (c ∷ cs)) rs) = ⊥
Plain stuck = Unit
Plain large = Unit

-- the same run under conditions
abbrev under_conds : List Bool → Run → Run
under_conds cs (stands aborted rs) = stands aborted rs
under_conds cs (stands (state m a ds) rs) = stands (state m a cs) rs
under_conds cs stuck = stuck
under_conds cs large = large

few-fits : (m a : Stack) (cs : List Bool) (rs : List Outcome) → length m + length a ≤ 4096 → within (state m a cs) rs ≡ stands (state m a cs) rs
few-fits m a cs rs h = rw (le-leb (length m + length a) 4096 h)

module _ (c : Context) (t : Tables) where
  pub record Plays (ws : List Word) (g : Run → Run) : Type 0 where
    pub live : (s : Run) (cs : List Bool) → Plain s → all_true cs ≡ true → recorded_run c t ws (under_conds cs s) ≡ under_conds cs (g s)
    pub plain : (s : Run) → Plain s → Plain (g s)
    pub skipped : (m a : Stack) (cs : List Bool) (rs : List Outcome) → length m + length a ≤ 4096 → all_true cs ≡ false
        → recorded_run c t ws (stands (state m a cs) rs) ≡ stands (state m a cs) rs

  run-append : (xs ys : List Word) (s : Run) → recorded_run c t (xs ++ ys) s ≡ recorded_run c t ys (recorded_run c t xs s)
  unfolding recorded_run
  run-append [] ys s = refl
  run-append (x ∷ xs) ys s = run-append xs ys (recorded_step c t x s)

  -- a word that works on the stacks
  left-under : (cs : List Bool) (x : Result) (rs : List Outcome) → within (under cs x) rs ≡ under_conds cs (within (under [] x) rs)
  left-under cs abort rs = refl
  left-under cs (done m a) rs = by (leb (length m + length a) 4096)
    where
      by : (b : Bool) → cond b (stands (state m a cs) rs) large ≡ under_conds cs (cond b (stands (state m a []) rs) large)
      by true = refl
      by false = refl

  left-plain : (x : Result) (rs : List Outcome) → Plain (within (under [] x) rs)
  left-plain abort rs = tt
  left-plain (done m a) rs = by (leb (length m + length a) 4096) refl
    where
      by : (b : Bool) → leb (length m + length a) 4096 ≡ b → Plain (cond b (stands (state m a []) rs) large)
      by true e = leb-true (length m + length a) 4096 e
      by false e = tt

  module _ (w : Word) (g : Outcome → Action) (e : (r : Outcome) → effect c (believing c t r) w ≡ works (g r)) where
    step-under : (r : Outcome) (m a : Stack) (cs : List Bool) → all_true cs ≡ true → step_believing c t r w m a cs ≡ under cs (g r m a)
    unfolding step
    step-under r m a cs h = rw (e r, h)

    step-skipped : (r : Outcome) (m a : Stack) (cs : List Bool) → all_true cs ≡ false → step_believing c t r w m a cs ≡ state m a cs
    unfolding step
    step-skipped r m a cs h = rw (e r, h)

    took : (q : Question) (m a : Stack) (cs : List Bool) (rs : List Outcome) → all_true cs ≡ true
        → taking c t q w m a cs rs ≡ under_conds cs (taking c t q w m a [] rs)
    took q m a cs [] h = refl
    took q m a cs (r ∷ rs) h =
        rw (step-under r m a cs h, step-under r m a [] refl) (by (suits q r))
      where
        by : (b : Bool) → cond b (within (under cs (g r m a)) rs) stuck ≡ under_conds cs (cond b (within (under [] (g r m a)) rs) stuck)
        by true = left-under cs (g r m a) rs
        by false = refl

    took-plain : (q : Question) (m a : Stack) (rs : List Outcome) → Plain (taking c t q w m a [] rs)
    took-plain q m a [] = tt
    took-plain q m a (r ∷ rs) = rw (step-under r m a [] refl) (by (suits q r))
      where
        by : (b : Bool) → Plain (cond b (within (under [] (g r m a)) rs) stuck)
        by true = left-plain (g r m a) rs
        by false = tt

    asked : (q : Question) (m a : Stack) (cs : List Bool) (rs : List Outcome) (x : Result) → all_true cs ≡ true
        → asking c t (under cs x) q w m a cs rs ≡ under_conds cs (asking c t (under [] x) q w m a [] rs)
    asked q m a cs rs abort h = refl
    asked q m a cs rs (done m' a') h = took q m a cs rs h

    asked-plain : (q : Question) (m a : Stack) (rs : List Outcome) (x : Result) → Plain (asking c t (under [] x) q w m a [] rs)
    asked-plain q m a rs abort = tt
    asked-plain q m a rs (done m' a') = took-plain q m a rs

    steps : (q : Option Question) (m a : Stack) (cs : List Bool) (rs : List Outcome) → all_true cs ≡ true
        → questioned c t q w m a cs rs ≡ under_conds cs (questioned c t q w m a [] rs)
    steps None m a cs rs h = rw (step-under yes m a cs h, step-under yes m a [] refl) (left-under cs (g yes m a) rs)
    steps (Some q) m a cs rs h = rw (h, step-under yes m a cs h, step-under yes m a [] refl) (asked q m a cs rs (g yes m a) h)

    steps-plain : (q : Option Question) (m a : Stack) (rs : List Outcome) → Plain (questioned c t q w m a [] rs)
    steps-plain None m a rs = rw (step-under yes m a [] refl) (left-plain (g yes m a) rs)
    steps-plain (Some q) m a rs = rw (step-under yes m a [] refl) (asked-plain q m a rs (g yes m a))

    steps-skipped : (q : Option Question) (m a : Stack) (cs : List Bool) (rs : List Outcome) → length m + length a ≤ 4096 → all_true cs ≡ false
        → questioned c t q w m a cs rs ≡ stands (state m a cs) rs
    steps-skipped None m a cs rs l h = rw (step-skipped yes m a cs h) (few-fits m a cs rs l)
    steps-skipped (Some q) m a cs rs l h = rw h (few-fits m a cs rs l)

    pub word : Plays (w ∷ []) (recorded_step c t w)
    unfolding recorded_run recorded_step
    word = record { live = live; plain = plain; skipped = λ m a cs rs l h. steps-skipped (asks w) m a cs rs l h }
      where
        live : (s : Run) (cs : List Bool) → Plain s → all_true cs ≡ true → recorded_step c t w (under_conds cs s) ≡ under_conds cs (recorded_step c t w s)
        live (stands aborted rs) cs p h = refl
        live (stands (state m a []) rs) cs p h = steps (asks w) m a cs rs h
        live (stands (state m a (d ∷ ds)) rs) cs p h = absurd p
        live stuck cs p h = refl
        live large cs p h = refl

        plain : (s : Run) → Plain s → Plain (recorded_step c t w s)
        plain (stands aborted rs) p = tt
        plain (stands (state m a []) rs) p = steps-plain (asks w) m a rs
        plain (stands (state m a (d ∷ ds)) rs) p = absurd p
        plain stuck p = tt
        plain large p = tt

  pub no_word : Plays [] (λ s. s)
  unfolding recorded_run
  no_word = record { live = λ s cs p h. refl; plain = λ s p. p; skipped = λ m a cs rs l h. refl }

  -- one script after another
  infixr 30 ◌⨾◌
  pub ◌⨾◌ : {xs ys : List Word} {g h : Run → Run} → Plays xs g → Plays ys h → Plays (xs ++ ys) (λ s. h (g s))
  ◌⨾◌ {xs} {ys} {g} {h} p q =
      record {
        live = λ s cs f l. run-append xs ys (under_conds cs s) ∙ ap (recorded_run c t ys) (p.live s cs f l) ∙ q.live (g s) cs (p.plain s f) l;
        plain = λ s f. q.plain (g s) (p.plain s f);
        skipped = λ m a cs rs l f.
            run-append xs ys (stands (state m a cs) rs) ∙ ap (recorded_run c t ys) (p.skipped m a cs rs l f) ∙ q.skipped m a cs rs l f;
      }

  -- runs that go no further
  data Ended : Run → Type 0 where
    e-aborted : (rs : List Outcome) → Ended (stands aborted rs)
    e-stuck : Ended stuck
    e-large : Ended large

  ended-stays : (ws : List Word) {s : Run} → Ended s → recorded_run c t ws s ≡ s
  ended-stays ws (e-aborted rs) = stays-aborted c t ws rs
  ended-stays ws e-stuck = stays-stuck c t ws
  ended-stays ws e-large = stays-large c t ws

  ended_same : (cs : List Bool) {s : Run} → Ended s → under_conds cs s ≡ s
  ended_same cs (e-aborted rs) = refl
  ended_same cs e-stuck = refl
  ended_same cs e-large = refl

  ended-plain : {s : Run} → Ended s → Plain s
  ended-plain (e-aborted rs) = tt
  ended-plain e-stuck = tt
  ended-plain e-large = tt

  ended-in : {xs : List Word} {g : Run → Run} → Plays xs g → (cs : List Bool) → all_true cs ≡ true → {s : Run} → Ended s → under_conds cs (g s) ≡ s
  ended-in {xs} p cs l {s} e =
      sym (p.live s cs (ended-plain e) l) ∙ ap (recorded_run c t xs) (ended_same cs e) ∙ ended-stays xs e

  -- ENDIF and ELSE
  end-closes : (b : Bool) (cs : List Bool) (s : Run) → Plain s → recorded_run c t (ENDIF ∷ []) (under_conds (b ∷ cs) s) ≡ under_conds cs s
  unfolding recorded_run recorded_step step
  end-closes b cs (stands aborted rs) p = refl
  end-closes b cs (stands (state m a []) rs) p = few-fits m a cs rs p
  end-closes b cs (stands (state m a (d ∷ ds)) rs) p = absurd p
  end-closes b cs stuck p = refl
  end-closes b cs large p = refl

  else-turns : (b : Bool) (cs : List Bool) (ws : List Word) (m a : Stack) (rs : List Outcome) → length m + length a ≤ 4096
      → recorded_run c t (ELSE ∷ ws) (stands (state m a (b ∷ cs)) rs) ≡ recorded_run c t ws (stands (state m a (not b ∷ cs)) rs)
  unfolding recorded_run recorded_step step
  else-turns b cs ws m a rs l = ap (recorded_run c t ws) (few-fits m a (not b ∷ cs) rs l)

  else-skips : {ys : List Word} {h : Run → Run} → Plays ys h → (cs : List Bool) (s : Run) → Plain s
      → recorded_run c t (ELSE ∷ (ys ++ ENDIF ∷ [])) (under_conds (true ∷ cs) s) ≡ under_conds cs s
  else-skips {ys} q cs (stands aborted rs) p = ended-stays (ELSE ∷ (ys ++ ENDIF ∷ [])) (e-aborted rs)
  else-skips {ys} q cs (stands (state m a []) rs) p =
      else-turns true cs (ys ++ ENDIF ∷ []) m a rs p
      ∙ run-append ys (ENDIF ∷ []) (stands (state m a (false ∷ cs)) rs)
      ∙ ap (recorded_run c t (ENDIF ∷ [])) (q.skipped m a (false ∷ cs) rs p refl)
      ∙ end-closes false cs (stands (state m a []) rs) p
  else-skips q cs (stands (state m a (d ∷ ds)) rs) p = absurd p
  else-skips {ys} q cs stuck p = ended-stays (ELSE ∷ (ys ++ ENDIF ∷ [])) e-stuck
  else-skips {ys} q cs large p = ended-stays (ELSE ∷ (ys ++ ENDIF ∷ [])) e-large

  -- IF and NOTIF
  module _ (w : Word) (holds : Bytes → Bool) (test : Run → Bool) (e : (r : Outcome) → effect c (believing c t r) w ≡ opens (may_branch c) holds)
      (d : asks w ≡ None) (k : (x : Bytes) (m a : Stack) (cs : List Bool) (rs : List Outcome) → test (stands (state (x ∷ m) a cs) rs) ≡ holds x) where
    starts : (ws : List Word) (m a : Stack) (cs : List Bool) (rs : List Outcome)
        → recorded_run c t (w ∷ ws) (stands (state m a cs) rs) ≡ recorded_run c t ws (within (step (opens (may_branch c) holds) m a cs) rs)
    unfolding recorded_run recorded_step
    starts ws m a cs rs = rw (d, e yes)

    starts-skipped : (ws : List Word) (m a : Stack) (cs : List Bool) (rs : List Outcome) → length m + length a ≤ 4096 → all_true cs ≡ false
        → recorded_run c t (w ∷ ws) (stands (state m a cs) rs) ≡ recorded_run c t ws (stands (state m a (false ∷ cs)) rs)
    unfolding step
    starts-skipped ws m a cs rs l f = starts ws m a cs rs ∙ rw f (ap (recorded_run c t ws) (few-fits m a (false ∷ cs) rs l))

    starts_none : (ws : List Word) (a : Stack) (cs : List Bool) (rs : List Outcome) → all_true cs ≡ true
        → recorded_run c t (w ∷ ws) (stands (state [] a cs) rs) ≡ stands aborted rs
    unfolding step
    starts_none ws a cs rs l = starts ws [] a cs rs ∙ rw l (ended-stays ws (e-aborted rs))

    starts-not : (ws : List Word) (x : Bytes) (m a : Stack) (cs : List Bool) (rs : List Outcome) → all_true cs ≡ true → may_branch c x ≡ false
        → recorded_run c t (w ∷ ws) (stands (state (x ∷ m) a cs) rs) ≡ stands aborted rs
    unfolding step
    starts-not ws x m a cs rs l f = starts ws (x ∷ m) a cs rs ∙ rw (l, f) (ended-stays ws (e-aborted rs))

    starts-may : (ws : List Word) (x : Bytes) (m a : Stack) (cs : List Bool) (rs : List Outcome) → all_true cs ≡ true → may_branch c x ≡ true
        → length m + length a ≤ 4096
        → recorded_run c t (w ∷ ws) (stands (state (x ∷ m) a cs) rs) ≡ recorded_run c t ws (stands (state m a (holds x ∷ cs)) rs)
    unfolding step
    starts-may ws x m a cs rs l f n = starts ws (x ∷ m) a cs rs ∙ rw (l, f) (ap (recorded_run c t ws) (few-fits m a (holds x ∷ cs) rs n))

    -- a condition that has ended is the same in both branches
    both-ended : {xs ys : List Word} {g h : Run → Run} → Plays xs g → Plays ys h → (cs : List Bool) → all_true cs ≡ true → {s : Run} → Ended s
        → (b : Bool) → s ≡ under_conds cs (cond b (g s) (h s))
    both-ended p q cs l en true = sym (ended-in p cs l en)
    both-ended p q cs l en false = sym (ended-in q cs l en)

    abbrev Branch : (Run → Run) → (Run → Run) → Run → Run
    Branch g h s = cond (test s) (g (opened c s)) (h (opened c s))

    module _ {xs ys : List Word} {g h : Run → Run} (p : Plays xs g) (q : Plays ys h) (ws : List Word)
        (taken : (m a : Stack) (cs : List Bool) (rs : List Outcome) → all_true cs ≡ true → length m + length a ≤ 4096 → (b : Bool)
        → recorded_run c t ws (stands (state m a (b ∷ cs)) rs) ≡ under_conds cs (cond b (g (stands (state m a []) rs)) (h (stands (state m a []) rs))))
        (over : (m a : Stack) (cs : List Bool) (rs : List Outcome) → all_true cs ≡ false → length m + length a ≤ 4096
        → recorded_run c t ws (stands (state m a (false ∷ cs)) rs) ≡ stands (state m a cs) rs) where
      pub branch : Plays (w ∷ ws) (Branch g h)
      branch = record { live = live; plain = plain; skipped = λ m a cs rs l f. starts-skipped ws m a cs rs l f ∙ over m a cs rs f l }
        where
          live : (s : Run) (cs : List Bool) → Plain s → all_true cs ≡ true → recorded_run c t (w ∷ ws) (under_conds cs s) ≡ under_conds cs (Branch g h s)
          live (stands aborted rs) cs f l = ended-stays (w ∷ ws) (e-aborted rs) ∙ both-ended p q cs l (e-aborted rs) (test (stands aborted rs))
          live (stands (state [] a []) rs) cs f l = starts_none ws a cs rs l ∙ both-ended p q cs l (e-aborted rs) (test (stands (state [] a []) rs))
          live (stands (state (x ∷ m) a []) rs) cs f l = by (may_branch c x) refl
            where
              by : (b : Bool) → may_branch c x ≡ b
                  → recorded_run c t (w ∷ ws) (stands (state (x ∷ m) a cs) rs) ≡ under_conds cs (Branch g h (stands (state (x ∷ m) a []) rs))
              by true e =
                  starts-may ws x m a cs rs l e (omega arith) ∙ taken m a cs rs l (omega arith) (holds x)
                  ∙ rw (k x m a [] rs, e) refl
              by false e =
                  starts-not ws x m a cs rs l e
                  ∙ (rw e (both-ended p q cs l (e-aborted rs) (test (stands (state (x ∷ m) a []) rs))))
          live (stands (state m a (b ∷ bs)) rs) cs f l = absurd f
          live stuck cs f l = ended-stays (w ∷ ws) e-stuck ∙ both-ended p q cs l e-stuck (test stuck)
          live large cs f l = ended-stays (w ∷ ws) e-large ∙ both-ended p q cs l e-large (test large)

          either : (b : Bool) (s : Run) → Plain s → Plain (cond b (g s) (h s))
          either true s f = p.plain s f
          either false s f = q.plain s f

          opened-plain : (s : Run) → Plain s → Plain (opened c s)
          opened-plain (stands aborted rs) f = tt
          opened-plain (stands (state [] a []) rs) f = tt
          opened-plain (stands (state (x ∷ m) a []) rs) f = by (may_branch c x)
            where
              by : (b : Bool) → Plain (cond b (stands (state m a []) rs) (stands aborted rs))
              by true = omega arith
              by false = tt
          opened-plain (stands (state m a (b ∷ bs)) rs) f = absurd f
          opened-plain stuck f = tt
          opened-plain large f = tt

          plain : (s : Run) → Plain s → Plain (Branch g h s)
          plain s f = either (test s) (opened c s) (opened-plain s f)

    -- with no ELSE, and with one
    pub opt : {xs : List Word} {g : Run → Run} → Plays xs g → Plays (w ∷ (xs ++ ENDIF ∷ [])) (Branch g (λ s. s))
    opt {xs} {g} p = branch p no_word (xs ++ ENDIF ∷ []) taken over
      where
        taken : (m a : Stack) (cs : List Bool) (rs : List Outcome) → all_true cs ≡ true → length m + length a ≤ 4096 → (b : Bool)
            → recorded_run c t (xs ++ ENDIF ∷ []) (stands (state m a (b ∷ cs)) rs)
            ≡ under_conds cs (cond b (g (stands (state m a []) rs)) (stands (state m a []) rs))
        taken m a cs rs l n true =
            run-append xs (ENDIF ∷ []) (stands (state m a (true ∷ cs)) rs)
            ∙ ap (recorded_run c t (ENDIF ∷ [])) (p.live (stands (state m a []) rs) (true ∷ cs) n l)
            ∙ end-closes true cs (g (stands (state m a []) rs)) (p.plain (stands (state m a []) rs) n)
        taken m a cs rs l n false =
            run-append xs (ENDIF ∷ []) (stands (state m a (false ∷ cs)) rs)
            ∙ ap (recorded_run c t (ENDIF ∷ [])) (p.skipped m a (false ∷ cs) rs n refl)
            ∙ end-closes false cs (stands (state m a []) rs) n

        over : (m a : Stack) (cs : List Bool) (rs : List Outcome) → all_true cs ≡ false → length m + length a ≤ 4096
            → recorded_run c t (xs ++ ENDIF ∷ []) (stands (state m a (false ∷ cs)) rs) ≡ stands (state m a cs) rs
        over m a cs rs f n =
            run-append xs (ENDIF ∷ []) (stands (state m a (false ∷ cs)) rs)
            ∙ ap (recorded_run c t (ENDIF ∷ [])) (p.skipped m a (false ∷ cs) rs n refl)
            ∙ end-closes false cs (stands (state m a []) rs) n

    pub alt : {xs ys : List Word} {g h : Run → Run} → Plays xs g → Plays ys h → Plays (w ∷ (xs ++ ELSE ∷ (ys ++ ENDIF ∷ []))) (Branch g h)
    alt {xs} {ys} {g} {h} p q = branch p q (xs ++ ELSE ∷ (ys ++ ENDIF ∷ [])) taken over
      where
        taken : (m a : Stack) (cs : List Bool) (rs : List Outcome) → all_true cs ≡ true → length m + length a ≤ 4096 → (b : Bool)
            → recorded_run c t (xs ++ ELSE ∷ (ys ++ ENDIF ∷ [])) (stands (state m a (b ∷ cs)) rs)
            ≡ under_conds cs (cond b (g (stands (state m a []) rs)) (h (stands (state m a []) rs)))
        taken m a cs rs l n true =
            run-append xs (ELSE ∷ (ys ++ ENDIF ∷ [])) (stands (state m a (true ∷ cs)) rs)
            ∙ ap (recorded_run c t (ELSE ∷ (ys ++ ENDIF ∷ []))) (p.live (stands (state m a []) rs) (true ∷ cs) n l)
            ∙ else-skips q cs (g (stands (state m a []) rs)) (p.plain (stands (state m a []) rs) n)
        taken m a cs rs l n false =
            run-append xs (ELSE ∷ (ys ++ ENDIF ∷ [])) (stands (state m a (false ∷ cs)) rs)
            ∙ ap (recorded_run c t (ELSE ∷ (ys ++ ENDIF ∷ []))) (p.skipped m a (false ∷ cs) rs n refl)
            ∙ else-turns false cs (ys ++ ENDIF ∷ []) m a rs n
            ∙ run-append ys (ENDIF ∷ []) (stands (state m a (true ∷ cs)) rs)
            ∙ ap (recorded_run c t (ENDIF ∷ [])) (q.live (stands (state m a []) rs) (true ∷ cs) n l)
            ∙ end-closes true cs (h (stands (state m a []) rs)) (q.plain (stands (state m a []) rs) n)

        over : (m a : Stack) (cs : List Bool) (rs : List Outcome) → all_true cs ≡ false → length m + length a ≤ 4096
            → recorded_run c t (xs ++ ELSE ∷ (ys ++ ENDIF ∷ [])) (stands (state m a (false ∷ cs)) rs) ≡ stands (state m a cs) rs
        over m a cs rs f n =
            run-append xs (ELSE ∷ (ys ++ ENDIF ∷ [])) (stands (state m a (false ∷ cs)) rs)
            ∙ ap (recorded_run c t (ELSE ∷ (ys ++ ENDIF ∷ []))) (p.skipped m a (false ∷ cs) rs n refl)
            ∙ else-turns false cs (ys ++ ENDIF ∷ []) m a rs n
            ∙ run-append ys (ENDIF ∷ []) (stands (state m a (true ∷ cs)) rs)
            ∙ ap (recorded_run c t (ENDIF ∷ [])) (q.skipped m a (true ∷ cs) rs n f)
            ∙ end-closes true cs (stands (state m a []) rs) n

  -- the words of fragments
  number : (n : ℕ) → Plays (<n> n ∷ []) (recorded_step c t (<n> n))
  number n = word (<n> n) _ (λ r. refl)

  key : (n : ℕ) → Plays (<key> n ∷ []) (recorded_step c t (<key> n))
  key n = word (<key> n) _ (λ r. refl)

  ifs : {xs : List Word} {g : Run → Run} → Plays xs g → Plays (IF ∷ (xs ++ ENDIF ∷ [])) (Playing.if c t g (λ s. s))
  ifs p = opt IF is_true top_true (λ r. refl) refl (λ x m a cs rs. refl) p

  if_nots : {xs : List Word} {g : Run → Run} → Plays xs g → Plays (NOTIF ∷ (xs ++ ENDIF ∷ [])) (Playing.if_not c t g (λ s. s))
  if_nots p = opt NOTIF (λ x. not (is_true x)) (λ s. not (top_true s)) (λ r. refl) refl (λ x m a cs rs. refl) p

  keys-play : (ns : List ℕ) → Plays (map <key> ns) (keys_pushed c t ns)
  unfolding keys_pushed
  keys-play [] = no_word
  keys-play (n ∷ ns) = key n ⨾ keys-play ns

  sigs-added : (ns : List ℕ) → Plays (sig_adds ns) (sigs_added c t ns)
  unfolding sigs_added
  sigs-added [] = no_word
  sigs-added (n ∷ ns) = key n ⨾ word CHECKSIGADD _ (λ r. refl) ⨾ sigs-added ns

  sigs-summed : (ns : List ℕ) → Plays (sig_sum ns) (sigs_summed c t ns)
  unfolding sigs_summed
  sigs-summed [] = no_word
  sigs-summed (n ∷ ns) = key n ⨾ word CHECKSIG _ (λ r. refl) ⨾ sigs-added ns

  lock-plays : (kind : LockKind) (n : ℕ) → Plays (⟦◌⟧ and_verify (Lock kind n)) (plays c t (Lock kind n))
  unfolding ⟦◌⟧ plays
  lock-plays After n = number n ⨾ word CHECKLOCKTIMEVERIFY _ (λ r. refl)
  lock-plays Older n = number n ⨾ word CHECKSEQUENCEVERIFY _ (λ r. refl)

  mutual
    unfolding ⟦◌⟧ sum adds plays summed added

    pub fragment-plays : (f : Fragment) → Plays (⟦◌⟧ and_verify f) (plays c t f)
    fragment-plays False = number 0
    fragment-plays True = number 1
    fragment-plays (PkK n) = key n
    fragment-plays (PkH n) =
        word DUP _ (λ r. refl) ⨾ word (HASH Hash160) _ (λ r. refl) ⨾ word (<keyhash> n) _ (λ r. refl) ⨾ word EQUALVERIFY _ (λ r. refl)
    fragment-plays (Lock kind n) = lock-plays kind n
    fragment-plays (Hash kind h) =
        word SIZE _ (λ r. refl) ⨾ number 32 ⨾ word EQUALVERIFY _ (λ r. refl) ⨾ word (HASH kind) _ (λ r. refl) ⨾ word (<h> kind h) _ (λ r. refl)
        ⨾ word EQUAL _ (λ r. refl)
    fragment-plays (Alt x) = word TOALTSTACK _ (λ r. refl) ⨾ fragment-plays x ⨾ word FROMALTSTACK _ (λ r. refl)
    fragment-plays (Swap x) = word SWAP _ (λ r. refl) ⨾ fragment-plays x
    fragment-plays (Check x) = fragment-plays x ⨾ word CHECKSIG _ (λ r. refl)
    fragment-plays (DupIf x) = word DUP _ (λ r. refl) ⨾ ifs (fragment-plays x)
    fragment-plays (Verify x) = fragment-plays x ⨾ word VERIFY _ (λ r. refl)
    fragment-plays (NonZero x) = word SIZE _ (λ r. refl) ⨾ word 0NOTEQUAL _ (λ r. refl) ⨾ ifs (fragment-plays x)
    fragment-plays (ZeroNotEqual x) = fragment-plays x ⨾ word 0NOTEQUAL _ (λ r. refl)
    fragment-plays (AndB x y) = rw append_assoc (fragment-plays x ⨾ fragment-plays y ⨾ word BOOLAND _ (λ r. refl))
    fragment-plays (AndV x y) = fragment-plays x ⨾ fragment-plays y
    fragment-plays (OrB x y) = rw append_assoc (fragment-plays x ⨾ fragment-plays y ⨾ word BOOLOR _ (λ r. refl))
    fragment-plays (OrD x y) = rw append_assoc (fragment-plays x ⨾ word IFDUP _ (λ r. refl) ⨾ if_nots (fragment-plays y))
    fragment-plays (OrC x y) = rw append_assoc (fragment-plays x ⨾ if_nots (fragment-plays y))
    fragment-plays (OrI x y) =
        rw append_assoc (alt IF is_true top_true (λ r. refl) refl (λ x m a cs rs. refl) (fragment-plays x) (fragment-plays y))
    fragment-plays (AndOr x y z) =
        rw (append_assoc (⟦◌⟧ and_verify x ++ NOTIF ∷ ⟦◌⟧ and_verify z), append_assoc (⟦◌⟧ and_verify x))
        (fragment-plays x ⨾ alt NOTIF (λ x. not (is_true x)) (λ s. not (top_true s)) (λ r. refl) refl (λ x m a cs rs. refl) (fragment-plays z) (fragment-plays y))
    fragment-plays (Thresh k xs) = sum-plays xs ⨾ number k ⨾ word EQUAL _ (λ r. refl)
    fragment-plays (Multi k keys) = number k ⨾ keys-play keys ⨾ number (length keys) ⨾ word CHECKMULTISIG _ (λ r. refl)
    fragment-plays (MultiA k keys) = sigs-summed keys ⨾ number k ⨾ word NUMEQUAL _ (λ r. refl)

    sum-plays : (xs : Fragments) → Plays (sum and_verify xs) (summed c t xs)
    sum-plays end = no_word
    sum-plays (x ▹ xs) = fragment-plays x ⨾ adds-play xs

    adds-play : (xs : Fragments) → Plays (adds and_verify xs) (added c t xs)
    adds-play end = no_word
    adds-play (x ▹ xs) = fragment-plays x ⨾ word ADD _ (λ r. refl) ⨾ adds-play xs

  -- a run that stands between two words with no condition open: the nested run is the run of the script
  under_none : (s : Run) → Plain s → under_conds [] s ≡ s
  under_none (stands aborted rs) p = refl
  under_none (stands (state m a []) rs) p = refl
  under_none (stands (state m a (d ∷ ds)) rs) p = absurd p
  under_none stuck p = refl
  under_none large p = refl

  pub script-plays : (f : Fragment) (s : Run) → Plain s → recorded_run c t (script f) s ≡ plays c t f s
  unfolding script
  script-plays f s p =
      let all = fragment-plays f in
      ap (recorded_run c t (⟦◌⟧ and_verify f)) (sym (under_none s p)) ∙ all.live s [] p refl ∙ under_none (plays c t f s) (all.plain s p)
