-- The malleability table of BIP 379, row by row in its order. m holds where the row's requirement holds and every child has m.
-- A letter that a row does not grant is false. `X.s` reads "X has s". Assumes nothing.
use Rattle.std.specs.Prelude.{ℕ, suc, ◌-◌, leb, Bool, true, false, not, ◌&&◌, ◌||◌, List, [], ◌∷◌}

-- the letters of this table
pub record Malleable : Type 0 where
  pub m : Bool
  pub s : Bool
  pub f : Bool
  pub e : Bool

abbrev pub just-0 : Malleable
just-0 = record { m = true; s = true; f = false; e = true }

abbrev pub just-1 : Malleable
just-1 = record { m = true; s = false; f = true; e = false }

abbrev pub pk_k : Malleable
pk_k = record { m = true; s = true; f = false; e = true }

abbrev pub pk_h : Malleable
pk_h = record { m = true; s = true; f = false; e = true }

-- older, after
abbrev pub time : Malleable
time = record { m = true; s = false; f = true; e = false }

-- sha256, hash256, ripemd160, hash160
abbrev pub hash : Malleable
hash = record { m = true; s = false; f = false; e = false }

abbrev pub andor : Malleable → Malleable → Malleable → Malleable
andor X Y Z =
    record {
      m = X.e && (X.s || Y.s || Z.s) && (X.m && Y.m && Z.m);
      s = Z.s && (X.s || Y.s);
      f = Z.f && (X.s || Y.f);
      e = Z.e && (X.s || Y.f);
    }

abbrev pub and_v : Malleable → Malleable → Malleable
and_v X Y = record { m = X.m && Y.m; s = X.s || Y.s; f = X.s || Y.f; e = false }

abbrev pub and_b : Malleable → Malleable → Malleable
and_b X Y =
    record {
      m = X.m && Y.m;
      s = X.s || Y.s;
      f = X.f && Y.f || X.s && X.f || Y.s && Y.f;
      e = X.e && Y.e && X.s && Y.s;
    }

abbrev pub or_b : Malleable → Malleable → Malleable
or_b X Z = record { m = X.e && Z.e && (X.s || Z.s) && (X.m && Z.m); s = X.s && Z.s; f = false; e = true }

abbrev pub or_c : Malleable → Malleable → Malleable
or_c X Z = record { m = X.e && (X.s || Z.s) && (X.m && Z.m); s = X.s && Z.s; f = true; e = false }

abbrev pub or_d : Malleable → Malleable → Malleable
or_d X Z = record { m = X.e && (X.s || Z.s) && (X.m && Z.m); s = X.s && Z.s; f = Z.f; e = Z.e }

abbrev pub or_i : Malleable → Malleable → Malleable
or_i X Z =
    record { m = (X.s || Z.s) && (X.m && Z.m); s = X.s && Z.s; f = X.f && Z.f; e = X.e && Z.f || X.f && Z.e }

abbrev pub all_m : List Malleable → Bool
all_m [] = true
all_m (X ∷ Xs) = X.m && all_m Xs

abbrev pub all_e : List Malleable → Bool
all_e [] = true
all_e (X ∷ Xs) = X.e && all_e Xs

abbrev pub all_s : List Malleable → Bool
all_s [] = true
all_s (X ∷ Xs) = X.s && all_s Xs

abbrev pub one_more_if : Bool → ℕ → ℕ
one_more_if true n = suc n
one_more_if false n = n

-- how many are not s
abbrev pub not_s : List Malleable → ℕ
not_s [] = 0
not_s (X ∷ Xs) = one_more_if (not X.s) (not_s Xs)

abbrev pub thresh : ℕ → List Malleable → Malleable
thresh k Xs = record { m = all_e Xs && leb (not_s Xs) k && all_m Xs; s = leb (not_s Xs) (k - 1); f = false; e = all_s Xs }

abbrev pub multi : Malleable
multi = record { m = true; s = true; f = false; e = true }

abbrev pub multi_a : Malleable
multi_a = record { m = true; s = true; f = false; e = true }

abbrev pub a: : Malleable → Malleable
a: X = record { m = X.m; s = X.s; f = X.f; e = X.e }

abbrev pub s: : Malleable → Malleable
s: X = record { m = X.m; s = X.s; f = X.f; e = X.e }

abbrev pub c: : Malleable → Malleable
c: X = record { m = X.m; s = true; f = X.f; e = X.e }

abbrev pub d: : Malleable → Malleable
d: X = record { m = X.m; s = X.s; f = false; e = X.f }

abbrev pub v: : Malleable → Malleable
v: X = record { m = X.m; s = X.s; f = true; e = false }

abbrev pub j: : Malleable → Malleable
j: X = record { m = X.m; s = X.s; f = false; e = X.f }

abbrev pub n: : Malleable → Malleable
n: X = record { m = X.m; s = X.s; f = X.f; e = X.e }
