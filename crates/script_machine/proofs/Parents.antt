-- The fragments with children, but for Thresh, do what their types say, where their children do.
use Prim.Native.Nat.{ℕ, ◌+◌}
use native.Mathlib.Omega.{arith}
use mathlib.Core.Bool.{Bool, true, false, not, ◌&&◌, ◌||◌, false≢true}
use mathlib.Core.List.{[], ◌∷◌, ◌++◌, append-nil}
use mathlib.Core.Logic.{◌⊎◌, inl, inr}
use mathlib.Core.Path.{◌≡◌, refl, sym, ap}
use lib.Dec.{eqb, eqb→eq}
use lib.IntN.{ℤ, pos}
use lib.ListN.{length, length-append}
use Rattle.correctness.specs.declared.Base.{Base}
use Rattle.correctness.specs.declared.Base.TheVariants.{B, K, «V», W}
use Rattle.correctness.specs.declared.Input.{Input}
use Rattle.correctness.specs.declared.Input.TheVariants.{Any, OneNonZero}
use Rattle.correctness.specs.declared.Correctness.{Correctness}
use Rattle.types.specs.declared.«Type».{«Type»}
use Rattle.correctness.specs.Letters.{is_b, is_k, is_v, is_w, base_eq, is_zero, is_one, is_non_zero}
use Rattle.correctness.specs.CorrectnessRules.{dupif_unit, is_bdu, same_bkv, or_d_input, or_i_input, and_or_input}
use Rattle.types.specs.TypeRules as rule
use Rattle.contexts.specs.declared.Context.{Context}
use Rattle.contexts.specs.declared.Context.TheVariants.{Segwitv0, Tap}
use Rattle.script_machine.specs.Numbers.{Bytes, Stack, is_true, element, same, write, read, nonzero}
use Rattle.script_machine.specs.Words.{Word, DUP, IFDUP, SWAP, SIZE, TOALTSTACK, FROMALTSTACK, VERIFY, 0NOTEQUAL, BOOLAND, BOOLOR, CHECKSIG}
use Rattle.script_machine.specs.Machine.{Outcomes, done, Action, ok, takes_numbers, ◌then◌, may_branch}
use Rattle.script_machine.proofs.Nested.{nothing}
use Rattle.script_machine.proofs.Meaning as Meaning
use Rattle.script_machine.proofs.Meaning.{if, if_not}
use Rattle.script_machine.proofs.Outcome.{Out, dead, does, ret, split, ok_out, ok-then, cond-out, weaken, same_out, top_in}
use Rattle.script_machine.proofs.Round.{size_none, T_of}
use Rattle.script_machine.proofs.Sizes.{Size, ones, ones-le, zero-size, one_size, nonzero-size, nonzero-one, check-size, size-eq, both}
use Rattle.script_machine.proofs.Sizes.{and-size, or_b-size, or_d-size, or_i-size, and_or-size}
use Rattle.script_machine.proofs.Sound.{Unit?, any, Kept, above, below, PostW, post-W, Top, t_b, t_v, t_k, Post, post, tested}
use Rattle.script_machine.proofs.Sound.{Runs, SoundAt, Sound, Good, ok_if-good, at_base, same_base, runs-at, sound-at, seq-B, seq-K, seq-V, seq-W}

-- a child that is Bdu
bdu : (x : Correctness) → is_bdu x ≡ true → (is_b x.base ≡ true) × (x.unit ≡ true)
bdu x e =
    let f = both (is_b x.base) (x.dissatisfiable && x.unit) e in
    (f.0, (both x.dissatisfiable x.unit f.1).1)

-- what IF takes in Tapscript, where DupIf is u
tap-unit : (x : Bytes) → may_branch Tap x ≡ true → (x ≡ []) ⊎ (x ≡ 1 ∷ [])
unfolding same
tap-unit [] e = inl refl
tap-unit (b ∷ []) e = inr (ap (λ (n : ℕ). n ∷ []) (eqb→eq b 1 (T_of (both (eqb b 1) true e).0)))
tap-unit (b ∷ c ∷ bs) e = absurd (false≢true (both (eqb b 1) false e).1)

may-unit : (c : Context) (x : Bytes) → may_branch c x ≡ true → Unit? (dupif_unit c) x
may-unit Segwitv0 x e = any
may-unit Tap x e = λ _. tap-unit x e

module _ (c : Context) (o : Outcomes) where
  infix 90 !◌
  abbrev !◌ : Word → Action
  ! w = Meaning.!◌ c o w

  above-top : {x : Bytes} {u : Bool} {ys : Stack} → Top o u B ys → Kept x u (x ∷ ys)
  above-top (t_b y v) = above y v

  alt-out : (x : Bytes) {i : Input} {u : Bool} {g : Action} {s : Stack} → Out g (Post o B i u) s
      → Out (λ s a. (! TOALTSTACK then g then ! FROMALTSTACK) (x ∷ s) a) (PostW x Any u) s
  alt-out x (dead e) = dead λ a. rw (e (x ∷ a))
  alt-out x (does xs ys r e q f) = does xs (x ∷ ys) r e (post-W tt (above-top q.top)) λ r a. rw (f r (x ∷ a))

  pub alt-good : (t : «Type») (g : Action) → Sound o t.corr g → Good o (rule.cast_alt t) (! TOALTSTACK then g then ! FROMALTSTACK)
  alt-good t g h = ok_if-good o (is_b t.corr.base) _ _ _ λ e.
      (λ a. refl, λ x s. alt-out x (at_base o B t.corr g e h s))

  -- Swap: its child takes exactly one, which is then the one below the kept element
  one-gone : {g : Action} {i : Input} {u : Bool} {b x : Bytes} {s : Stack} → ((n : ℕ) → Size 1 i n → n ≡ 1) → Out g (Post o B i u) (b ∷ x ∷ s)
      → Out (λ r a. g (b ∷ x ∷ r) a) (λ zs ws. PostW x Any u (b ∷ zs) ws) s
  one-gone k (dead e) = dead e
  one-gone {g} {i} {u} {b} {x} {s} k (does xs ys r e q f) = go xs ys e (k (length xs) q.size) q.top f
    where
      go : (xs ys : Stack) → b ∷ x ∷ s ≡ xs ++ r → length xs ≡ 1 → Top o u B ys → ((r a : Stack) → g (xs ++ r) a ≡ done (ys ++ r) a)
          → Out (λ r a. g (b ∷ x ∷ r) a) (λ zs ws. PostW x Any u (b ∷ zs) ws) s
      go [] ys e l t f = absurd (omega arith)
      go (c ∷ d ∷ xs) ys e l t f = absurd (omega arith)
      go (c ∷ []) ys e l (t_b y v) f =
          let p : b ≡ c = cc in
          does [] (y ∷ x ∷ []) s refl (post-W tt (below y v)) λ r a. rw p (f (x ∷ r) a)

  pub swap-good : (t : «Type») (g : Action) → Sound o t.corr g → Good o (rule.cast_swap t) (! SWAP then g)
  swap-good t g h = ok_if-good o (is_b t.corr.base && is_one t.corr.input) _ _ _ λ e.
      let f = both (is_b t.corr.base) (is_one t.corr.input) e in (
        λ a. refl,
        λ x. split (λ a. refl) λ b r.
            one-gone (λ n l. one_size 1 t.corr.input n f.1 l) (at_base o B t.corr g f.0 h (b ∷ x ∷ r)),
      )

  pub check-good : (t : «Type») (g : Action) → Sound o t.corr g → Good o (rule.cast_check t) (g then ! CHECKSIG)
  check-good t g h = ok_if-good o (is_k t.corr.base) _ _ _ λ e s.
      seq-K _ (at_base o K t.corr g e h s) λ xs y l. split (λ a. refl) λ x r.
      ret (_ ∷ []) (tested _ (size-eq 1 t.corr.input (sym (length-append xs (x ∷ []))) (check-size t.corr.input (length xs) l)))
      (λ r a. refl) r

  -- DupIf: its child takes none, and the element that IF takes stays
  none-gone : {g : Action} {i : Input} {u v : Bool} {x : Bytes} {r : Stack} → ((n : ℕ) → Size 1 i n → n ≡ 0) → Unit? v x
      → Out g (Post o «V» i u) (x ∷ r) → Out (λ r a. g (x ∷ r) a) (λ zs ws. Post o B OneNonZero v (x ∷ zs) ws) r
  none-gone k w (dead e) = dead e
  none-gone {g} {i} {u} {v} {x} {r} k w (does xs ys t e q f) = go xs ys (k (length xs) q.size) q.top f
    where
      go : (xs ys : Stack) → length xs ≡ 0 → Top o u «V» ys → ((r a : Stack) → g (xs ++ r) a ≡ done (ys ++ r) a)
          → Out (λ r a. g (x ∷ r) a) (λ zs ws. Post o B OneNonZero v (x ∷ zs) ws) r
      go (c ∷ xs) ys l t f = absurd (omega arith)
      go [] ys l t_v f = ret (x ∷ []) (post refl (t_b x w)) (λ r a. f (x ∷ r) a) r

  pub dup_if-good : (t : «Type») (g : Action) → Sound o t.corr g → Good o (rule.cast_dupif c t) (! DUP then if c o g nothing)
  dup_if-good t g h = ok_if-good o (is_v t.corr.base && is_zero t.corr.input) _ _ _ λ e.
      let f = both (is_v t.corr.base) (is_zero t.corr.input) e in
      split (λ a. refl) λ x r. ok_out (may_branch c x) λ may. cond-out (is_true x)
      (λ _. none-gone (λ n l. (zero-size 1 t.corr.input n f.1 l).0) (may-unit c x may) (at_base o «V» t.corr g f.0 h (x ∷ r)))
      (λ _. ret (x ∷ []) (post refl (t_b x (may-unit c x may))) (λ r a. refl) r)

  pub verify-good : (t : «Type») (g : Action) → Sound o t.corr g → Good o (rule.cast_verify t) (g then ! VERIFY)
  verify-good t g h = ok_if-good o (is_b t.corr.base) _ _ _ λ e s.
      seq-B _ (at_base o B t.corr g e h s) λ xs y l v r. ok_out _ λ _. ret [] (post (rw append-nil l) t_v) (λ r a. refl) r

  -- NonZero: its child takes the element whose size is read
  pub non_zero-good : (t : «Type») (g : Action) → Sound o t.corr g
      → Good o (rule.cast_nonzero t) (! SIZE then ! 0NOTEQUAL then if c o g nothing)
  non_zero-good t g h = ok_if-good o (is_non_zero t.corr.input && is_b t.corr.base) _ _ _ λ e.
      let f = both (is_non_zero t.corr.input) (is_b t.corr.base) e in
      split (λ a. refl) λ x r. ok-then _ (if c o g nothing) _ λ _. ok_out _ λ _.
      cond-out (is_true (element (nonzero (read (write (pos (length x)))))))
      (λ _. top_in (at_base o B t.corr g f.1 h (x ∷ r)) λ xs ys w. nonzero-size 1 t.corr.input (length xs) f.0 w.size)
      (λ k. ret (x ∷ []) (post (nonzero-one t.corr.input f.0) (t_b x (λ _. inl (size_none x k)))) (λ r a. refl) r)

  pub zero_not_equal-good : (t : «Type») (g : Action) → Sound o t.corr g → Good o (rule.cast_zeronotequal t) (g then ! 0NOTEQUAL)
  zero_not_equal-good t g h = ok_if-good o (is_b t.corr.base) _ _ _ λ e s.
      seq-B _ (at_base o B t.corr g e h s) λ xs y l v r. ok_out _ λ _. ret (_ ∷ []) (tested _ (rw append-nil l)) (λ r a. refl) r

  -- AndB and OrB: a test f of the two numbers
  pair-out : (f : ℤ → ℤ → Bool) {i j k : Input} {u v : Bool} (g h : Action) → ((m n : ℕ) → Size 1 i m → Size 1 j n → Size 1 k (m + n))
      → SoundAt o B i u g → SoundAt o W j v h → Runs o B k true (g then h then takes_numbers λ a b. element (f a b))
  pair-out f {i} {j} {k} g h size p q s = seq-B _ (p s) λ xs y l w r.
      seq-W _ (q.1 y r) (λ zs z n r. last xs zs y z l n r) (λ zs z n r. last xs zs z y l n r)
    where
      last : (xs zs : Stack) (a b : Bytes) → Size 1 i (length xs) → Size 1 j (length zs) → (r : Stack)
          → Out (λ r m. takes_numbers (λ a b. element (f a b)) (a ∷ b ∷ r) m) (λ us ws. Post o B k true (xs ++ (zs ++ us)) ws) r
      last xs zs a b l n r =
          ok_out _ λ _. ok_out _ λ _.
          ret (_ ∷ []) (tested _ (rw (append-nil, length-append) (size (length xs) (length zs) l n))) (λ r a. refl) r

  pub and_b-good : (s t : «Type») (g h : Action) → Sound o s.corr g → Sound o t.corr h → Good o (rule.and_b s t) (g then h then ! BOOLAND)
  and_b-good s t g h p q = ok_if-good o (is_b s.corr.base && is_w t.corr.base) _ _ _ λ e.
      let f = both (is_b s.corr.base) (is_w t.corr.base) e in
      pair-out (λ i j. nonzero i && nonzero j) g h (λ m n. and-size 1 (omega arith) s.corr.input t.corr.input m n)
      (at_base o B s.corr g f.0 p) (at_base o W t.corr h f.1 q)

  pub or_b-good : (s t : «Type») (g h : Action) → Sound o s.corr g → Sound o t.corr h → Good o (rule.or_b s t) (g then h then ! BOOLOR)
  or_b-good s t g h p q =
      ok_if-good o ((s.corr.dissatisfiable && t.corr.dissatisfiable) && (is_b s.corr.base && is_w t.corr.base)) _ _ _ λ e.
      let d = both (s.corr.dissatisfiable && t.corr.dissatisfiable) (is_b s.corr.base && is_w t.corr.base) e in
      let f = both (is_b s.corr.base) (is_w t.corr.base) d.1 in
      pair-out (λ i j. nonzero i || nonzero j) g h (λ m n. or_b-size s.corr.input t.corr.input m n)
      (at_base o B s.corr g f.0 p) (at_base o W t.corr h f.1 q)

  pub and_v-good : (s t : «Type») (g h : Action) → Sound o s.corr g → Sound o t.corr h → Good o (rule.and_v s t) (g then h)
  and_v-good s t g h p q = ok_if-good o (is_v s.corr.base && not (is_w t.corr.base)) _ _ _ λ e.
      let f = both (is_v s.corr.base) (not (is_w t.corr.base)) e in
      sound-at o t.corr.base (g then h) f.1 λ m. seq-V _ (at_base o «V» s.corr g f.0 p m) λ xs l r.
      weaken (runs-at o t.corr.base h f.1 q r) λ zs ws w.
      post (rw length-append (and-size (ones t.corr.base) (ones-le t.corr.base) s.corr.input t.corr.input _ _ l w.size)) w.top

  -- a second fragment that runs where the first is false
  or_d-total : (j : Input) (xs zs : Stack) → Size 1 j (length zs) → is_zero j ≡ true → length (xs ++ zs) ≡ length xs
  or_d-total j xs zs l e = omega (arith, length-append xs zs, (zero-size 1 j (length zs) e l).0)

  pub or_c-good : (s t : «Type») (g h : Action) → Sound o s.corr g → Sound o t.corr h → Good o (rule.or_c s t) (g then if_not c o h nothing)
  or_c-good s t g h p q =
      ok_if-good o (is_bdu s.corr && is_v t.corr.base) _ _ _ λ e m.
      let f = both (is_bdu s.corr) (is_v t.corr.base) e in
      seq-B _ (at_base o B s.corr g (bdu s.corr f.0).0 p m) λ xs y l v r. ok_out (may_branch c y) λ _. cond-out (not (is_true y))
      (λ _. weaken (at_base o «V» t.corr h f.1 q r) λ zs ws w.
      post (or_d-size s.corr.input t.corr.input (length xs) (length (xs ++ zs)) l (or_d-total t.corr.input xs zs w.size)) (no-unit w.top))
      (λ _. ret [] (post (rw append-nil (or_d-size s.corr.input t.corr.input (length xs) (length xs) l λ e. refl)) t_v) (λ r a. refl) r)
    where
      no-unit : {u : Bool} {ws : Stack} → Top o u «V» ws → Top o false «V» ws
      no-unit t_v = t_v

  -- which of two units
  unit_left : (u v : Bool) {y : Bytes} → Unit? u y → Unit? (u && v) y
  unit_left u v w e = w (both u v e).0

  unit-right : (u v : Bool) {y : Bytes} → Unit? v y → Unit? (u && v) y
  unit-right u v w e = w (both u v e).1

  top_left : {b : Base} {ys : Stack} (u v : Bool) → Top o u b ys → Top o (u && v) b ys
  top_left u v (t_b y w) = t_b y (unit_left u v w)
  top_left u v t_v = t_v
  top_left u v (t_k y k) = t_k y k

  top_right : {b : Base} {ys : Stack} (u v : Bool) → Top o v b ys → Top o (u && v) b ys
  top_right u v (t_b y w) = t_b y (unit-right u v w)
  top_right u v t_v = t_v
  top_right u v (t_k y k) = t_k y k

  -- OrD: the first is unit, so what IFDUP doubles is the byte 1
  or_d-out : (i j : Input) (v : Bool) (h : Action) → Runs o B j v h → (xs : Stack) (y : Bytes) → Size 1 i (length xs)
      → Unit? true y → (r : Stack) (b : Bool) → is_true y ≡ b
      → Out (λ r a. (! IFDUP then if_not c o h nothing) (y ∷ r) a) (λ zs ws. Post o B (or_d_input i j) v (xs ++ zs) ws) r
  or_d-out i j v h q xs y l w r true t =
      same_out {h = λ s a. ok (may_branch c y) (done (y ∷ s) a)} (λ s a. rw (t, t)) (ok_out (may_branch c y) λ _.
      ret (y ∷ []) (post (rw append-nil (or_d-size i j (length xs) (length xs) l λ e. refl)) (t_b y (λ e. w refl))) (λ r a. refl) r)
  or_d-out i j v h q xs y l w r false t =
      same_out {h = λ s a. ok (may_branch c y) (h s a)} (λ s a. rw (t, t)) (ok_out (may_branch c y) λ _. weaken (q r) λ zs ws w.
      post (or_d-size i j (length xs) (length (xs ++ zs)) l (or_d-total j xs zs w.size)) w.top)

  pub or_d-good : (s t : «Type») (g h : Action) → Sound o s.corr g → Sound o t.corr h
      → Good o (rule.or_d s t) (g then ! IFDUP then if_not c o h nothing)
  or_d-good s t g h p q =
      ok_if-good o (is_bdu s.corr && is_b t.corr.base) _ _ _ λ e m.
      let f = both (is_bdu s.corr) (is_b t.corr.base) e in
      let u = bdu s.corr f.0 in
      seq-B _ (at_base o B s.corr g u.0 p m) λ xs y l v r.
      or_d-out s.corr.input t.corr.input t.corr.unit h (at_base o B t.corr h f.1 q) xs y l (λ _. v u.1) r (is_true y) refl

  pub or_i-good : (s t : «Type») (g h : Action) → Sound o s.corr g → Sound o t.corr h → Good o (rule.or_i s t) (if c o g h)
  or_i-good s t g h p q = ok_if-good o (same_bkv s.corr.base t.corr.base) _ _ _ λ e.
      let f = both (base_eq s.corr.base t.corr.base) (not (is_w s.corr.base)) e in
      sound-at o s.corr.base (if c o g h) f.1
      (out s.corr.base s.corr.input t.corr.input s.corr.unit t.corr.unit (runs-at o s.corr.base g f.1 p)
      (runs-at o s.corr.base h f.1 (same_base o s.corr.base t.corr h f.0 q)))
    where
      out : (b : Base) (i j : Input) (u v : Bool) → Runs o b i u g → Runs o b j v h → Runs o b (or_i_input i j) (u && v) (if c o g h)
      out b i j u v p q = split (λ a. refl) λ x r. ok_out (may_branch c x) λ _. cond-out (is_true x)
          (λ _. weaken (p r) λ zs ws w. post (or_i-size (ones b) i j i (length zs) w.size λ e. (both (is_zero i) (is_zero j) e).0) (top_left u v w.top))
          (λ _. weaken (q r) λ zs ws w. post (or_i-size (ones b) i j j (length zs) w.size λ e. (both (is_zero i) (is_zero j) e).1) (top_right u v w.top))

  pub and_or-good : (s t w : «Type») (g h k : Action) → Sound o s.corr g → Sound o t.corr h → Sound o w.corr k
      → Good o (rule.and_or s t w) (g then if_not c o k h)
  and_or-good s t w g h k p q r =
      ok_if-good o (is_bdu s.corr && same_bkv t.corr.base w.corr.base) _ _ _ λ e.
      let f = both (is_bdu s.corr) (same_bkv t.corr.base w.corr.base) e in
      let b = both (base_eq t.corr.base w.corr.base) (not (is_w t.corr.base)) f.1 in
      sound-at o t.corr.base (g then if_not c o k h) b.1
      (out t.corr.base s.corr.input t.corr.input w.corr.input t.corr.unit w.corr.unit
      (at_base o B s.corr g (bdu s.corr f.0).0 p)
      (runs-at o t.corr.base h b.1 q) (runs-at o t.corr.base k b.1 (same_base o t.corr.base w.corr k b.0 r)))
    where
      out : (b : Base) (i j l : Input) {u : Bool} (v x : Bool) → Runs o B i u g → Runs o b j v h → Runs o b l x k
          → Runs o b (and_or_input i j l) (v && x) (g then if_not c o k h)
      out b i j l v x p q r m = seq-B _ (p m) λ xs y n _ m. ok_out (may_branch c y) λ _. cond-out (not (is_true y))
          (λ _. weaken (r m) λ zs ws t. post (rw length-append (and_or-size (ones b) i j l l (length xs) (length zs) n t.size
          (λ e. (both (is_zero j) (is_zero l) e).1) (λ e. (both (is_one j) (is_one l) e).1))) (top_right v x t.top))
          (λ _. weaken (q m) λ zs ws t. post (rw length-append (and_or-size (ones b) i j l j (length xs) (length zs) n t.size
          (λ e. (both (is_zero j) (is_zero l) e).0) (λ e. (both (is_one j) (is_one l) e).0))) (top_left v x t.top))
