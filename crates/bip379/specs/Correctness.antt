-- The correctness table of BIP 379, row by row in its order: what a fragment requires of its children, its type and its properties.
-- A letter that a row does not grant is false. `X.z` reads "X has z". Assumes nothing.
use Rattle.std.specs.Prelude.{Bool, true, false, ◌&&◌, ◌||◌, List, [], ◌∷◌, Option, None, Some}

pub data Base : Type 0 where
  B «V» K W : Base

-- the letters of this table
pub record Correct : Type 0 where
  pub base : Base
  pub z : Bool
  pub o : Bool
  pub n : Bool
  pub d : Bool
  pub u : Bool

-- the script that is spent: P2WSH or Tapscript
pub data Context : Type 0 where
  p2wsh tapscript : Context

abbrev pub in_tapscript : Context → Bool
in_tapscript p2wsh = false
in_tapscript tapscript = true

-- X is B, V, K, W
abbrev pub is_b : Correct → Bool
is_b X = elim X.base [ B ↦ true | «V» ↦ false | K ↦ false | W ↦ false ]

abbrev pub is_v : Correct → Bool
is_v X = elim X.base [ B ↦ false | «V» ↦ true | K ↦ false | W ↦ false ]

abbrev pub is_k : Correct → Bool
is_k X = elim X.base [ B ↦ false | «V» ↦ false | K ↦ true | W ↦ false ]

abbrev pub is_w : Correct → Bool
is_w X = elim X.base [ B ↦ false | «V» ↦ false | K ↦ false | W ↦ true ]

-- X is B, K or V
abbrev pub is_bkv : Correct → Bool
is_bkv X = is_b X || is_k X || is_v X

-- X and Y are both B, both K or both V
abbrev pub both_bkv : Correct → Correct → Bool
both_bkv X Y = is_b X && is_b Y || is_k X && is_k Y || is_v X && is_v Y

-- the type, where the requirement holds
abbrev pub requires : Bool → Correct → Option Correct
requires true t = Some t
requires false t = None

abbrev pub just-0 : Correct
just-0 = record { base = B; z = true; o = false; n = false; d = true; u = true }

abbrev pub just-1 : Correct
just-1 = record { base = B; z = true; o = false; n = false; d = false; u = true }

abbrev pub pk_k : Correct
pk_k = record { base = K; z = false; o = true; n = true; d = true; u = true }

abbrev pub pk_h : Correct
pk_h = record { base = K; z = false; o = false; n = true; d = true; u = true }

-- older, after
abbrev pub time : Correct
time = record { base = B; z = true; o = false; n = false; d = false; u = false }

-- sha256, hash256, ripemd160, hash160
abbrev pub hash : Correct
hash = record { base = B; z = false; o = true; n = true; d = true; u = true }

abbrev pub andor : Correct → Correct → Correct → Option Correct
andor X Y Z =
    requires (is_b X && X.d && X.u && both_bkv Y Z)
    (record {
      base = Y.base;
      z = X.z && Y.z && Z.z;
      o = X.z && Y.o && Z.o || X.o && Y.z && Z.z;
      n = false;
      d = Z.d;
      u = Y.u && Z.u;
    })

abbrev pub and_v : Correct → Correct → Option Correct
and_v X Y =
    requires (is_v X && is_bkv Y)
    (record {
      base = Y.base;
      z = X.z && Y.z;
      o = X.o && Y.z || X.z && Y.o;
      n = X.n || X.z && Y.n;
      d = false;
      u = Y.u;
    })

abbrev pub and_b : Correct → Correct → Option Correct
and_b X Y =
    requires (is_b X && is_w Y)
    (record {
      base = B;
      z = X.z && Y.z;
      o = X.o && Y.z || X.z && Y.o;
      n = X.n || X.z && Y.n;
      d = X.d && Y.d;
      u = true;
    })

abbrev pub or_b : Correct → Correct → Option Correct
or_b X Z =
    requires (is_b X && X.d && is_w Z && Z.d)
    (record { base = B; z = X.z && Z.z; o = X.o && Z.z || X.z && Z.o; n = false; d = true; u = true })

abbrev pub or_c : Correct → Correct → Option Correct
or_c X Z =
    requires (is_b X && X.d && X.u && is_v Z)
    (record { base = «V»; z = X.z && Z.z; o = X.o && Z.z; n = false; d = false; u = false })

abbrev pub or_d : Correct → Correct → Option Correct
or_d X Z =
    requires (is_b X && X.d && X.u && is_b Z)
    (record { base = B; z = X.z && Z.z; o = X.o && Z.z; n = false; d = Z.d; u = Z.u })

abbrev pub or_i : Correct → Correct → Option Correct
or_i X Z =
    requires (both_bkv X Z)
    (record { base = X.base; z = false; o = X.z && Z.z; n = false; d = X.d || Z.d; u = X.u && Z.u })

-- every child after the first is Wdu
abbrev pub each_wdu : List Correct → Bool
each_wdu [] = true
each_wdu (X ∷ Xs) = is_w X && X.d && X.u && each_wdu Xs

-- X1 is Bdu, the others Wdu; a thresh has a child
abbrev pub first_bdu : List Correct → Bool
first_bdu [] = false
first_bdu (X ∷ Xs) = is_b X && X.d && X.u && each_wdu Xs

abbrev pub all_z : List Correct → Bool
all_z [] = true
all_z (X ∷ Xs) = X.z && all_z Xs

-- all are z but one, which is o
abbrev pub all_z_but_one_o : List Correct → Bool
all_z_but_one_o [] = false
all_z_but_one_o (X ∷ Xs) = X.o && all_z Xs || X.z && all_z_but_one_o Xs

abbrev pub thresh : List Correct → Option Correct
thresh Xs = requires (first_bdu Xs) (record { base = B; z = all_z Xs; o = all_z_but_one_o Xs; n = false; d = true; u = true })

abbrev pub multi : Correct
multi = record { base = B; z = false; o = false; n = true; d = true; u = true }

abbrev pub multi_a : Correct
multi_a = record { base = B; z = false; o = false; n = false; d = true; u = true }

abbrev pub a: : Correct → Option Correct
a: X = requires (is_b X) (record { base = W; z = false; o = false; n = false; d = X.d; u = X.u })

abbrev pub s: : Correct → Option Correct
s: X = requires (is_b X && X.o) (record { base = W; z = false; o = false; n = false; d = X.d; u = X.u })

abbrev pub c: : Correct → Option Correct
c: X = requires (is_k X) (record { base = B; z = false; o = X.o; n = X.n; d = X.d; u = true })

abbrev pub d: : Context → Correct → Option Correct
d: C X = requires (is_v X && X.z) (record { base = B; z = false; o = true; n = true; d = true; u = in_tapscript C })

abbrev pub v: : Correct → Option Correct
v: X = requires (is_b X) (record { base = «V»; z = X.z; o = X.o; n = X.n; d = false; u = false })

abbrev pub j: : Correct → Option Correct
j: X = requires (is_b X && X.n) (record { base = B; z = false; o = X.o; n = true; d = true; u = X.u })

abbrev pub n: : Correct → Option Correct
n: X = requires (is_b X) (record { base = B; z = X.z; o = X.o; n = X.n; d = X.d; u = true })
