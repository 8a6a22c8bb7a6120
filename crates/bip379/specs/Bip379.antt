-- The fragments of BIP 379, the letters that make a type there, and the type that its two tables together give each fragment.
-- Assumes nothing.
use Rattle.std.specs.Prelude.{ℕ, List, map, Option, None, Some}
use Rattle.bip379.specs.Correctness as C
use Rattle.bip379.specs.Malleability as M

pub data Leaf : Type 0 where
  just-0 just-1 pk_k pk_h older after sha256 hash256 ripemd160 hash160 multi multi_a : Leaf

pub data Pair : Type 0 where
  and_v and_b or_b or_c or_d or_i : Pair

pub data Wrapper : Type 0 where
  a: s: c: d: v: j: n: t: l: u: : Wrapper

-- a fragment over its children, or over what is known of them
pub data Fragment (A : Type 0) : Type 0 where
  leaf : Leaf → Fragment A
  andor : A → A → A → Fragment A
  pair : Pair → A → A → Fragment A
  thresh : ℕ → List A → Fragment A
  wrap : Wrapper → A → Fragment A

abbrev pub over : {A B : Type 0} → (A → B) → Fragment A → Fragment B
over g (leaf F) = leaf F
over g (andor X Y Z) = andor (g X) (g Y) (g Z)
over g (pair F X Y) = pair F (g X) (g Y)
over g (thresh k Xs) = thresh k (map g Xs)
over g (wrap F X) = wrap F (g X)

-- a type: the letters of both tables
pub record Letters : Type 0 where
  pub corr : C.Correct
  pub mall : M.Malleable

-- a row of each table
abbrev pub rows : Option C.Correct → M.Malleable → Option Letters
rows (Some c) m = Some (record { corr = c; mall = m })
rows None m = None

abbrev pub leaf_type : Leaf → Letters
leaf_type just-0 = record { corr = C.just-0; mall = M.just-0 }
leaf_type just-1 = record { corr = C.just-1; mall = M.just-1 }
leaf_type pk_k = record { corr = C.pk_k; mall = M.pk_k }
leaf_type pk_h = record { corr = C.pk_h; mall = M.pk_h }
leaf_type older = record { corr = C.time; mall = M.time }
leaf_type after = record { corr = C.time; mall = M.time }
leaf_type sha256 = record { corr = C.hash; mall = M.hash }
leaf_type hash256 = record { corr = C.hash; mall = M.hash }
leaf_type ripemd160 = record { corr = C.hash; mall = M.hash }
leaf_type hash160 = record { corr = C.hash; mall = M.hash }
leaf_type multi = record { corr = C.multi; mall = M.multi }
leaf_type multi_a = record { corr = C.multi_a; mall = M.multi_a }

abbrev pub pair_type : Pair → Letters → Letters → Option Letters
pair_type and_v X Y = rows (C.and_v X.corr Y.corr) (M.and_v X.mall Y.mall)
pair_type and_b X Y = rows (C.and_b X.corr Y.corr) (M.and_b X.mall Y.mall)
pair_type or_b X Z = rows (C.or_b X.corr Z.corr) (M.or_b X.mall Z.mall)
pair_type or_c X Z = rows (C.or_c X.corr Z.corr) (M.or_c X.mall Z.mall)
pair_type or_d X Z = rows (C.or_d X.corr Z.corr) (M.or_d X.mall Z.mall)
pair_type or_i X Z = rows (C.or_i X.corr Z.corr) (M.or_i X.mall Z.mall)

-- t:X is and_v(X,1), l:X is or_i(0,X), u:X is or_i(X,0)
abbrev pub wrapper_type : C.Context → Wrapper → Letters → Option Letters
wrapper_type ctx a: X = rows (C.a: X.corr) (M.a: X.mall)
wrapper_type ctx s: X = rows (C.s: X.corr) (M.s: X.mall)
wrapper_type ctx c: X = rows (C.c: X.corr) (M.c: X.mall)
wrapper_type ctx d: X = rows (C.d: ctx X.corr) (M.d: X.mall)
wrapper_type ctx v: X = rows (C.v: X.corr) (M.v: X.mall)
wrapper_type ctx j: X = rows (C.j: X.corr) (M.j: X.mall)
wrapper_type ctx n: X = rows (C.n: X.corr) (M.n: X.mall)
wrapper_type ctx t: X = pair_type and_v X (leaf_type just-1)
wrapper_type ctx l: X = pair_type or_i (leaf_type just-0) X
wrapper_type ctx u: X = pair_type or_i X (leaf_type just-0)

-- none where BIP 379 refuses the children
abbrev pub type_of : C.Context → Fragment Letters → Option Letters
type_of ctx (leaf F) = Some (leaf_type F)
type_of ctx (andor X Y Z) = rows (C.andor X.corr Y.corr Z.corr) (M.andor X.mall Y.mall Z.mall)
type_of ctx (pair F X Y) = pair_type F X Y
type_of ctx (thresh k Xs) = rows (C.thresh (map (λ X. X.corr) Xs)) (M.thresh k (map (λ X. X.mall) Xs))
type_of ctx (wrap F X) = wrapper_type ctx F X
