-- An end that is an error, and one that is none. Assumes nothing.
use Rattle.refusals.specs.declared.Refusal.{Refusal}
use Rattle.std.specs.Prelude.{true, false, Result, Ok, Err, is_err}
use mathlib.Core.Bool.{true≢false}
use mathlib.Core.Path.{◌≡◌, refl, sym}

pub end-done : (end : Result (Unit {0}) Refusal) → is_err end ≡ false → end ≡ Ok tt
end-done (Ok tt) e = refl
end-done (Err n) e = absurd (true≢false e)

pub some-refusal : (end : Result (Unit {0}) Refusal) → is_err end ≡ true → (n : Refusal) × (end ≡ Err n)
some-refusal (Ok tt) e = absurd (true≢false (sym e))
some-refusal (Err n) e = (n, refl)
