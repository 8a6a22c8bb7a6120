-- Trees that the definitions give, computed by the checker: document 01, "Records", its whole case, and trees that are refused.
use Rattle.std.specs.Prelude.{ℕ, zero, suc, List, [], ◌∷◌, ◌++◌, ◌≡◌, refl}
use Rattle.words.specs.Bytes.{little, le_at}
use Rattle.records.specs.Numbers.{u16s, numbers_at}
use Rattle.records.specs.Shapes.{look_up, shape_of}
use Rattle.records.specs.Payloads.{width, payload_of}
use Rattle.records.specs.RecordForm.{kind_of}
use Rattle.trees.specs.Fragment.{PkK, Check}
use Rattle.trees.specs.Typing.{type_of}
use Rattle.trees.specs.Height.{height_of}
use Rattle.trees.specs.Reading.{Answer, refused, done, bad_tree, ill_typed, tree_too_tall, take_all, root_of, add_record, read_from, read_tree}
use Rattle.trees.specs.Tree.{find, tree_of}
use Rattle.trees.specs.TreeCheck.{Typed, typed_tree_of, check_of}

-- PkK of key 7; Check over record 0; OrB, of record 0 twice; Multi, 1 of 1
abbrev key : List ℕ
key = 8 ∷ 0 ∷ 34 ∷ 0 ∷ 7 ∷ 0 ∷ 0 ∷ 0 ∷ []

abbrev check : List ℕ
check = 6 ∷ 0 ∷ 44 ∷ 0 ∷ 0 ∷ 0 ∷ []

abbrev twice : List ℕ
twice = 8 ∷ 0 ∷ 51 ∷ 0 ∷ 0 ∷ 0 ∷ 0 ∷ 0 ∷ []

abbrev multi : List ℕ
multi = 12 ∷ 0 ∷ 57 ∷ 0 ∷ 1 ∷ 0 ∷ 1 ∷ 0 ∷ 7 ∷ 0 ∷ 0 ∷ 0 ∷ []

-- document 01's whole case is Check over PkK
pub whole-case : tree_of (key ++ check) ≡ done (Check (PkK 7))
unfolding little le_at u16s numbers_at look_up shape_of kind_of width payload_of take_all root_of add_record read_from read_tree find tree_of
whole-case = refl

-- a child taken twice, a record that none takes, no record
pub child-twice : tree_of (key ++ twice) ≡ refused bad_tree
unfolding little le_at u16s numbers_at look_up shape_of kind_of width payload_of take_all root_of add_record read_from read_tree find tree_of
child-twice = refl

pub unused : tree_of (key ++ key) ≡ refused bad_tree
unfolding little le_at u16s numbers_at look_up shape_of kind_of width payload_of take_all root_of add_record read_from read_tree find tree_of
unused = refl

pub no_record : tree_of [] ≡ refused bad_tree
unfolding root_of read_from read_tree tree_of
no_record = refl

-- Multi in Tap, also where the bytes behind it are no record: records are taken in order
pub multi-in-tapscript : check_of 1 multi 4096 ≡ refused ill_typed
unfolding little le_at u16s numbers_at look_up shape_of kind_of width payload_of take_all root_of add_record read_from read_tree find type_of typed_tree_of check_of
multi-in-tapscript = refl

pub ill-typed-first : check_of 1 (multi ++ (0 ∷ [])) 4096 ≡ refused ill_typed
unfolding little le_at u16s numbers_at look_up shape_of kind_of width payload_of take_all root_of add_record read_from read_tree find type_of typed_tree_of check_of
ill-typed-first = refl

-- ---- how tall a tree may be

-- n times ZeroNotEqual, over record 1 and the records after it
unfoldable pub wraps : ℕ → List ℕ
wraps zero = []
wraps (suc n) = wraps n ++ (6 ∷ 0 ∷ 48 ∷ 0 ∷ suc n ∷ 0 ∷ [])

-- the number that the console shows, 0 if a tree passes
abbrev number_of : Answer Typed → ℕ
number_of (refused n) = n
number_of (done x) = 0

-- a tree that is 128 high passes, and one that is 129 high does not; ill-typed comes first
pub height-128 : number_of (check_of 0 (key ++ check ++ wraps 126) 4096) ≡ 0
unfolding wraps little le_at u16s numbers_at look_up shape_of kind_of width payload_of take_all root_of add_record read_from read_tree find type_of height_of typed_tree_of check_of
height-128 = refl

pub height-129 : number_of (check_of 0 (key ++ check ++ wraps 127) 4096) ≡ tree_too_tall
unfolding wraps little le_at u16s numbers_at look_up shape_of kind_of width payload_of take_all root_of add_record read_from read_tree find type_of height_of typed_tree_of check_of
height-129 = refl

pub ill-typed-and-tall : number_of (check_of 0 (key ++ check ++ wraps 126 ++ (6 ∷ 0 ∷ 44 ∷ 0 ∷ 127 ∷ 0 ∷ [])) 4096) ≡ ill_typed
unfolding wraps little le_at u16s numbers_at look_up shape_of kind_of width payload_of take_all root_of add_record read_from read_tree find type_of height_of typed_tree_of check_of
ill-typed-and-tall = refl
