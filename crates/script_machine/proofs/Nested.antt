-- What a script does where it runs and where it is skipped, put together from its parts with conditions nested.
use mathlib.Core.Bool.{Bool, true, false, cond}
use mathlib.Core.List.{List, [], ◌∷◌, ◌++◌}
use mathlib.Core.Path.{◌≡◌, refl, sym}
use Rattle.contexts.specs.declared.Context.{Context}
use Rattle.script_machine.specs.Numbers.{Bytes, Stack}
use Rattle.script_machine.specs.Words.{Word, ELSE, ENDIF}
use Rattle.script_machine.specs.Machine.{Outcomes, Result, abort, done, Action, ok, pop, and_then, ◌then◌}
use Rattle.script_machine.specs.Machine.{Effect, works, opens, turns, closes, effect}
use Rattle.script_machine.specs.Machine.{State, aborted, state, all_true, under, step, run}

-- no word, the action of a word that works on the stacks, and a condition by the top element
abbrev pub nothing : Action
nothing m a = done m a

abbrev pub doing : Effect → Action
doing (works g) = g
doing (opens may holds) = nothing
doing turns = nothing
doing closes = nothing

abbrev pub branch : (may holds : Bytes → Bool) → Action → Action → Action
branch may holds g h m a = pop m λ x m. ok (may x) (cond (holds x) (g m a) (h m a))

module _ (c : Context) (o : Outcomes) where
  -- ws does g under conditions that are all true, and nothing under any other
  pub record Means (ws : List Word) (g : Action) : Type 0 where
    pub live : (m a : Stack) (cs : List Bool) → all_true cs ≡ true → run c o ws (state m a cs) ≡ under cs (g m a)
    pub skipped : (m a : Stack) (cs : List Bool) → all_true cs ≡ false → run c o ws (state m a cs) ≡ state m a cs

  pub run-aborted : (ws : List Word) → run c o ws aborted ≡ aborted
  unfolding run
  run-aborted [] = refl
  run-aborted (w ∷ ws) = refl

  pub run-append : (xs ys : List Word) (s : State) → run c o (xs ++ ys) s ≡ run c o ys (run c o xs s)
  unfolding run
  run-append [] ys s = refl
  run-append (x ∷ xs) ys aborted = sym (run-aborted ys)
  run-append (x ∷ xs) ys (state m a cs) = run-append xs ys (step (effect c o x) m a cs)

  run-nil : (s : State) → run c o [] s ≡ s
  unfolding run
  run-nil s = refl

  run-cons : (w : Word) (ws : List Word) (m a : Stack) (cs : List Bool)
      → run c o (w ∷ ws) (state m a cs) ≡ run c o ws (step (effect c o w) m a cs)
  unfolding run
  run-cons w ws m a cs = refl

  run-one : (w : Word) (m a : Stack) (cs : List Bool) → run c o (w ∷ []) (state m a cs) ≡ step (effect c o w) m a cs
  unfolding run
  run-one w m a cs = refl

  ended : (b : Bool) (cs : List Bool) (r : Result) → run c o (ENDIF ∷ []) (under (b ∷ cs) r) ≡ under cs r
  unfolding run step
  ended b cs abort = refl
  ended b cs (done m a) = refl

  -- what follows a condition that an element may or may not open
  taken : (ws : List Word) (b : Bool) (s : State) (cs : List Bool) (r : Result) → run c o ws s ≡ under cs r
      → run c o ws (cond b s aborted) ≡ under cs (ok b r)
  unfolding ok
  taken ws true s cs r e = e
  taken ws false s cs r e = run-aborted ws

-- Scripts put together from their parts.
module _ {c : Context} {o : Outcomes} where
  pub no_word : Means c o [] nothing
  no_word = record { live = λ m a cs e. run-nil c o (state m a cs); skipped = λ m a cs e. run-nil c o (state m a cs) }

  pub word : (w : Word) {g : Action} → effect c o w ≡ works g → Means c o (w ∷ []) g
  unfolding step
  word w {g} e = record { live = λ m a cs t. rw (run-one, e, t); skipped = λ m a cs t. rw (run-one, e, t) }

  -- one script after another
  after : (ys : List Word) {h : Action} → Means c o ys h → (cs : List Bool) → all_true cs ≡ true → (r : Result)
      → run c o ys (under cs r) ≡ under cs (and_then r h)
  after ys p cs t abort = run-aborted c o ys
  after ys p cs t (done m a) = p.live m a cs t

  infixr 30 ◌⨾◌
  pub ◌⨾◌ : {xs ys : List Word} {g h : Action} → Means c o xs g → Means c o ys h → Means c o (xs ++ ys) (g then h)
  ◌⨾◌ {xs} {ys} {g} p q =
      record {
        live = λ m a cs t. rw (run-append, p.live m a cs t) (after ys q cs t (g m a));
        skipped = λ m a cs t. rw (run-append, p.skipped m a cs t, q.skipped m a cs t);
      }

  -- IF p ENDIF and NOTIF p ENDIF
  opt-taken : {xs : List Word} {g : Action} → Means c o xs g → (m a : Stack) (cs : List Bool) → all_true cs ≡ true → (b : Bool)
      → run c o (xs ++ ENDIF ∷ []) (state m a (b ∷ cs)) ≡ under cs (cond b (g m a) (done m a))
  unfolding step
  opt-taken {xs} {g} p m a cs t true = rw (run-append, p.live m a (true ∷ cs) t) (ended c o true cs (g m a))
  opt-taken {xs} {g} p m a cs t false = rw (run-append, p.skipped m a (false ∷ cs) refl, run-one)

  opt-live : (w : Word) {may holds : Bytes → Bool} {xs : List Word} {g : Action} → effect c o w ≡ opens may holds → Means c o xs g
      → (m a : Stack) (cs : List Bool) → all_true cs ≡ true
      → run c o (w ∷ (xs ++ ENDIF ∷ [])) (state m a cs) ≡ under cs (branch may holds g nothing m a)
  unfolding step
  opt-live w e p [] a cs t = rw (run-cons, e, t, run-aborted)
  opt-live w {may} {holds} {xs} e p (x ∷ m) a cs t =
      rw (run-cons, e, t) (taken c o (xs ++ ENDIF ∷ []) (may x) (state m a (holds x ∷ cs)) cs _ (opt-taken p m a cs t (holds x)))

  pub opt : (w : Word) {may holds : Bytes → Bool} {xs : List Word} {g : Action} → effect c o w ≡ opens may holds → Means c o xs g
      → Means c o (w ∷ (xs ++ ENDIF ∷ [])) (branch may holds g nothing)
  unfolding step
  opt w e p =
      record {
        live = opt-live w e p;
        skipped = λ m a cs t. rw (run-cons, e, t, run-append, p.skipped m a (false ∷ cs) refl, run-one);
      }

  -- IF p ELSE q ENDIF and NOTIF p ELSE q ENDIF
  else-skipped : {ys : List Word} {h : Action} → Means c o ys h → (cs : List Bool) (r : Result)
      → run c o (ELSE ∷ (ys ++ ENDIF ∷ [])) (under (true ∷ cs) r) ≡ under cs r
  unfolding step
  else-skipped {ys} q cs abort = run-aborted c o (ELSE ∷ (ys ++ ENDIF ∷ []))
  else-skipped q cs (done m a) = rw (run-cons, run-append, q.skipped m a (false ∷ cs) refl, run-one)

  alt-taken : {xs ys : List Word} {g h : Action} → Means c o xs g → Means c o ys h
      → (m a : Stack) (cs : List Bool) → all_true cs ≡ true → (b : Bool)
      → run c o (xs ++ ELSE ∷ (ys ++ ENDIF ∷ [])) (state m a (b ∷ cs)) ≡ under cs (cond b (g m a) (h m a))
  unfolding step
  alt-taken {g = g} p q m a cs t true = rw (run-append, p.live m a (true ∷ cs) t) (else-skipped q cs (g m a))
  alt-taken {h = h} p q m a cs t false =
      rw (run-append, p.skipped m a (false ∷ cs) refl, run-cons, run-append, q.live m a (true ∷ cs) t) (ended c o true cs (h m a))

  alt-live : (w : Word) {may holds : Bytes → Bool} {xs ys : List Word} {g h : Action} → effect c o w ≡ opens may holds
      → Means c o xs g → Means c o ys h → (m a : Stack) (cs : List Bool) → all_true cs ≡ true
      → run c o (w ∷ (xs ++ ELSE ∷ (ys ++ ENDIF ∷ []))) (state m a cs) ≡ under cs (branch may holds g h m a)
  unfolding step
  alt-live w e p q [] a cs t = rw (run-cons, e, t, run-aborted)
  alt-live w {may} {holds} {xs} {ys} e p q (x ∷ m) a cs t =
      rw (run-cons, e, t) (taken c o (xs ++ ELSE ∷ (ys ++ ENDIF ∷ [])) (may x) (state m a (holds x ∷ cs)) cs _ (alt-taken p q m a cs t (holds x)))

  pub alt : (w : Word) {may holds : Bytes → Bool} {xs ys : List Word} {g h : Action} → effect c o w ≡ opens may holds
      → Means c o xs g → Means c o ys h → Means c o (w ∷ (xs ++ ELSE ∷ (ys ++ ENDIF ∷ []))) (branch may holds g h)
  unfolding step
  alt w e p q =
      record {
        live = alt-live w e p q;
        skipped = λ m a cs t. rw (
          run-cons,
          e,
          t,
          run-append,
          p.skipped m a (false ∷ cs) refl,
          run-cons,
          run-append,
          q.skipped m a (true ∷ cs) t,
          run-one,
        );
      }
