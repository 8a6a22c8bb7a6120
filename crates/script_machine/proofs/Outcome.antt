-- What an action does on a stack: it aborts, or it removes elements from the top and leaves others, over every remainder. The rules to show it.
use Prim.Native.Nat.{ℕ, zero, suc, ◌≤◌}
use native.Mathlib.Omega.{arith}
use mathlib.Core.Bool.{Bool, true, false, cond}
use mathlib.Core.List.{[], ◌∷◌, ◌++◌, append_assoc}
use mathlib.Core.Path.{◌≡◌, refl, ◌∙◌, ap}
use lib.ListN.{length}
use Rattle.script_machine.specs.Numbers.{Bytes, Stack}
use Rattle.script_machine.specs.Machine.{Result, abort, done, Action, ok, pop_many, and_then, ◌then◌}

-- on s the action aborts, or it takes xs off the top and leaves ys there, and does the same over any other remainder
pub data Out (g : Action) (Q : Stack → Stack → Type 0) (s : Stack) : Type 0 where
  dead : ((a : Stack) → g s a ≡ abort) → Out g Q s
  does : (xs ys r : Stack) → s ≡ xs ++ r → Q xs ys → ((r a : Stack) → g (xs ++ r) a ≡ done (ys ++ r) a) → Out g Q s

-- nothing is taken
pub ret : {g : Action} {Q : Stack → Stack → Type 0} (ys : Stack) → Q [] ys → ((r a : Stack) → g r a ≡ done (ys ++ r) a) → (s : Stack) → Out g Q s
ret ys q h s = does [] ys s refl q h

-- the stack is empty, or has a top, which is taken
pub split : {g : Action} {Q : Stack → Stack → Type 0} → ((a : Stack) → g [] a ≡ abort)
    → ((x : Bytes) (r : Stack) → Out (λ r a. g (x ∷ r) a) (λ zs ws. Q (x ∷ zs) ws) r) → (s : Stack) → Out g Q s
split e h [] = dead e
split {g} {Q} e h (x ∷ m) = go (h x m)
  where
    go : Out (λ r a. g (x ∷ r) a) (λ zs ws. Q (x ∷ zs) ws) m → Out g Q (x ∷ m)
    go (dead e) = dead e
    go (does xs ys r e q f) = does (x ∷ xs) ys r (ap (λ (t : Stack). x ∷ t) e) q f

pub many : (k : ℕ) {f : Stack → Action} {Q : Stack → Stack → Type 0} → ((xs r : Stack) → Out (f xs) (λ zs ws. Q (xs ++ zs) ws) r)
    → (s : Stack) → Out (λ s a. pop_many k s λ xs r. f xs r a) Q s
many zero h s = h [] s
many (suc k) {f} {Q} h s = split (λ a. refl) (λ x r. many k (λ xs r. h (x ∷ xs) r) r) s

-- a test that aborts where it fails, alone and with an action after it
pub ok_out : {g : Action} {Q : Stack → Stack → Type 0} {s : Stack} (b : Bool) → (b ≡ true → Out g Q s) → Out (λ s a. ok b (g s a)) Q s
unfolding ok
ok_out true h = h refl
ok_out false h = dead λ a. refl

pub ok-then : (g h : Action) {Q : Stack → Stack → Type 0} {s : Stack} (b : Bool) → (b ≡ true → Out (g then h) Q s)
    → Out (λ s a. and_then (ok b (g s a)) h) Q s
unfolding ok
ok-then g h true k = k refl
ok-then g h false k = dead λ a. refl

pub cond-out : {g h : Action} {Q : Stack → Stack → Type 0} {s : Stack} (b : Bool) → (b ≡ true → Out g Q s) → (b ≡ false → Out h Q s)
    → Out (λ s a. cond b (g s a) (h s a)) Q s
cond-out true k l = k refl
cond-out false k l = l refl

-- one action after another
pub seq : {g : Action} (h : Action) {P Q : Stack → Stack → Type 0} {s : Stack} → Out g P s
    → ((xs ys : Stack) → P xs ys → (r : Stack) → Out (λ r a. h (ys ++ r) a) (λ zs ws. Q (xs ++ zs) ws) r)
    → Out (g then h) Q s
seq h (dead e) k = dead λ a. ap (λ (z : Result). and_then z h) (e a)
seq {g} h {P} {Q} {s} (does xs ys r e p f) k = go (k xs ys p r)
  where
    go : Out (λ r a. h (ys ++ r) a) (λ zs ws. Q (xs ++ zs) ws) r → Out (g then h) Q s
    go (dead e') = dead λ a. rw (e, f r a) (e' a)
    go (does zs ws t e' q f') = does (xs ++ zs) ws t (rw (e, e', append_assoc)) q λ r a. rw (append_assoc, f) (f' r a)

-- another postcondition, and another action that does the same
pub weaken : {g : Action} {P Q : Stack → Stack → Type 0} {s : Stack} → Out g P s → ((xs ys : Stack) → P xs ys → Q xs ys) → Out g Q s
weaken (dead e) k = dead e
weaken (does xs ys r e q f) k = does xs ys r e (k xs ys q) f

pub same_out : {g h : Action} {Q : Stack → Stack → Type 0} {s : Stack} → ((s a : Stack) → g s a ≡ h s a) → Out h Q s → Out g Q s
same_out {s = s} k (dead e) = dead λ a. k s a ∙ e a
same_out k (does xs ys r e q f) = does xs ys r e q λ r a. k (xs ++ r) a ∙ f r a

-- at least one is removed: then it is the top
pub top_in : {g : Action} {Q : Stack → Stack → Type 0} {x : Bytes} {r : Stack} → Out g Q (x ∷ r)
    → ((xs ys : Stack) → Q xs ys → 1 ≤ length xs) → Out (λ r a. g (x ∷ r) a) (λ zs ws. Q (x ∷ zs) ws) r
top_in (dead e) k = dead e
top_in (does [] ys t e q f) k = absurd (let z : 1 ≤ 0 = k [] ys q in omega arith)
top_in {g} {Q} {x} {r} (does (c ∷ xs) ys t e q f) k =
    let p : c ≡ x = cc in
    does xs ys t (cc) (rw p at q) λ r a. rw (← p) (f r a)
