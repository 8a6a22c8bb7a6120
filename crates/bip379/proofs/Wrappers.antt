-- The wrappers agree, but for the difference named of c:X: both tables computed over every sane type. Assumes nothing.
use mathlib.Core.Bool.{Bool, true, false, ◌&&◌}
use Rattle.std.specs.Prelude.{Option}
use mathlib.Core.Path.{◌≡◌, refl}
use lib.Dec.{T}
use lib.Ieee.Fits.{and_l, and_r}
use Rattle.contexts.specs.Bools.{implies}
use Rattle.types.specs.Sanity.{sane, arises}
use Rattle.bip379.specs.Rust.{«Type»}
use Rattle.bip379.specs.Correctness.{Context, p2wsh, tapscript}
use Rattle.bip379.specs.Bip379.{Letters, wrapper_type, Wrapper, a:, s:, c:, d:, v:, j:, n:, t:, l:, u:}
use Rattle.bip379.specs.Agreement.{letters, in_letters, wrapper_rule, wrapper_difference, amended, AgreeButFor, NoKz}
use Rattle.bip379.specs.Agreement.{Difference, same, e-of-thresh, z-of-c}
use Rattle.bip379.proofs.Every.{all_type, every_type}
use Rattle.bip379.proofs.Equal.{eq_bool, eq_letters, letters-equal, equal-letters}

modus : (a b : Bool) → T (implies a b) → T a → T b
modus true b h t = h
modus false b h t = absurd t

abbrev is_same : Difference → Bool
is_same same = true
is_same e-of-thresh = false
is_same z-of-c = false

is_same_lem : (D : Difference) → T (is_same D) → D ≡ same
is_same_lem same h = refl
is_same_lem e-of-thresh h = absurd h
is_same_lem z-of-c h = absurd h

-- the answers are the same once amended, and the same as they are only where no difference is named
abbrev told : Difference → Option Letters → Option Letters → Bool
told D bip ours = eq_letters bip (amended D ours) && eq_bool (eq_letters bip ours) (is_same D)

told_same : (a b : Bool) → T (eq_bool a b) → T a → T b
told_same true b h t = h
told_same false b h t = absurd t

abbrev wrapper_told : Context → Wrapper → «Type» → Bool
wrapper_told ctx F x =
    implies (sane x) (told (wrapper_difference F (letters x)) (wrapper_type ctx F (letters x)) (in_letters (wrapper_rule ctx F x)))

wrappers-computed : (F : Wrapper) (ctx : Context) → T (all_type λ x. wrapper_told ctx F x)
wrappers-computed a: ctx = tt
wrappers-computed s: ctx = tt
wrappers-computed c: ctx = tt
wrappers-computed d: p2wsh = tt
wrappers-computed d: tapscript = tt
wrappers-computed v: ctx = tt
wrappers-computed j: ctx = tt
wrappers-computed n: ctx = tt
wrappers-computed t: ctx = tt
wrappers-computed l: ctx = tt
wrappers-computed u: ctx = tt

pub wrappers-agree : (ctx : Context) (F : Wrapper) (x : «Type») → T (sane x)
    → AgreeButFor (wrapper_difference F (letters x)) (wrapper_type ctx F (letters x)) (in_letters (wrapper_rule ctx F x))
wrappers-agree ctx F x s =
    let D = wrapper_difference F (letters x) in
    let bip = wrapper_type ctx F (letters x) in
    let ours = in_letters (wrapper_rule ctx F x) in
    let h = modus (sane x) (told D bip ours) (every_type (λ x. wrapper_told ctx F x) (wrappers-computed F ctx) x) s in
    let same? = and_r (eq_letters bip (amended D ours)) (eq_bool (eq_letters bip ours) (is_same D)) h in
    record {
      agree = letters-equal bip (amended D ours) (and_l (eq_letters bip (amended D ours)) _ h);
      differ = λ k e. k (is_same_lem D (told_same (eq_letters bip ours) (is_same D) same? (equal-letters bip ours e)));
    }

-- over every type that arises, c:X is the same
abbrev no_kz : «Type» → Bool
no_kz x = implies (arises x) (is_same (wrapper_difference c: (letters x)))

pub no-Kz : NoKz
no-Kz x h = is_same_lem _ (modus (arises x) (is_same (wrapper_difference c: (letters x))) (every_type (λ x. no_kz x) tt x) h)
