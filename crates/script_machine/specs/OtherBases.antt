-- What the script of a well-typed tree of base V, K or W does, from document 01, "What a fragment's script does", its last paragraph.
use Rattle.std.specs.Prelude.{ℕ, true, [], ◌∷◌, ◌++◌, ◌⊎◌, ◌≡◌, length, Ok}
use Rattle.correctness.specs.declared.Base.TheVariants.{K, «V», W}
use Rattle.types.specs.declared.«Type».{«Type»}
use Rattle.correctness.specs.Letters.{is_zero, is_one}
use Rattle.contexts.specs.declared.Context.{Context}
use Rattle.trees.specs.Fragment.{Fragment}
use Rattle.contexts.specs.Leaves.{Hash160}
use Rattle.trees.specs.Typing.{type_of}
use Rattle.script_machine.specs.Numbers.{Bytes, Stack}
use Rattle.script_machine.specs.Machine.{Outcomes, state, run}
use Rattle.script_machine.specs.Translation.{script}
use Rattle.script_machine.specs.Demand3.{Aborts}

-- Started on `above` and then m, the script removes elements from the top of m and leaves `left` in their place and in that of `above`,
-- over every remainder and every alternate stack; `ones` is how many it removes under o.
pub record Leaves (c : Context) (o : Outcomes) (f : Fragment) (t : «Type») (ones : ℕ) (above m left : Stack) : Type 0 where
  pub removed : Stack
  pub remainder : Stack
  pub starts : m ≡ removed ++ remainder
  pub runs : (r a : Stack) → run c o (script f) (state (above ++ (removed ++ r)) a []) ≡ state (left ++ r) a []
  pub under-z : is_zero t.corr.input ≡ true → length removed ≡ 0
  pub under-o : is_one t.corr.input ≡ true → length removed ≡ ones

-- V pushes nothing.
abbrev pub BaseV : Type 0
BaseV =
    (c : Context) (o : Outcomes) (f : Fragment) (t : «Type») → type_of c f ≡ Ok t → t.corr.base ≡ «V» → (m : Stack)
    → Aborts c o f m ⊎ Leaves c o f t 1 [] m []

-- A key that a tree may name, by itself or by its hash.
abbrev pub IsKey : Outcomes → Bytes → Type 0
IsKey o y = ((n : ℕ) × (y ≡ o.key n)) ⊎ ((n : ℕ) × (o.hash Hash160 y ≡ o.key_hash n))

-- K pushes one key, its signature still below, so o removes none.
abbrev pub BaseK : Type 0
BaseK =
    (c : Context) (o : Outcomes) (f : Fragment) (t : «Type») → type_of c f ≡ Ok t → t.corr.base ≡ K → (m : Stack)
    → Aborts c o f m ⊎ ((y : Bytes) × IsKey o y × Leaves c o f t 0 [] m (y ∷ []))

-- x is kept and y pushed, in either order of the two.
abbrev pub Keeps : Context → Outcomes → Fragment → «Type» → Bytes → Bytes → Stack → Type 0
Keeps c o f t x y m = Leaves c o f t 1 (x ∷ []) m (x ∷ y ∷ []) ⊎ Leaves c o f t 1 (x ∷ []) m (y ∷ x ∷ [])

-- W keeps one top element, and aborts where there is none, and pushes one, which under u is empty or the byte 1.
abbrev pub BaseW : Type 0
BaseW =
    (c : Context) (o : Outcomes) (f : Fragment) (t : «Type») → type_of c f ≡ Ok t → t.corr.base ≡ W
    → Aborts c o f [] × ((x : Bytes) (m : Stack)
    → Aborts c o f (x ∷ m) ⊎ ((y : Bytes) × Keeps c o f t x y m × (t.corr.unit ≡ true → (y ≡ []) ⊎ (y ≡ 1 ∷ []))))
