-- What is known of a tree whose script was written. Assumes nothing.
use Prim.Native.Nat.{ℕ}
use native.Mathlib.Omega.{arith}
use mathlib.Core.Bool.{Bool, true, false, ◌&&◌, false≢true}
use Rattle.std.specs.Prelude.{Some, Ok}
use mathlib.Core.Path.{◌≡◌, refl}
use borrow.Author.Tests.{eqb-true}
use lib.Dec.{leb, eqb}
use lib.ListN.{length}
use Rattle.contexts.specs.declared.Context.{Context}
use Rattle.trees.specs.Fragment.{Fragment}
use Rattle.trees.specs.Typing.{type_of}
use Rattle.trees.specs.Reading.{refused, done, max_records}
use Rattle.trees.specs.Tree.{tree_of}
use Rattle.trees.specs.TreeCheck.{Typed, context_of, check_of}
use Rattle.trees.proofs.Theorem.{passes-well-typed-trees}
use Rattle.writing.specs.WellFormed.{WellFormed}
use Rattle.writing.proofs.WellRead.{reads-well-formed}
use Rattle.script_machine.specs.Numbers.{Bytes}
use Rattle.script_bytes.specs.Tables.{Tables}
use Rattle.script_bytes.specs.Encoding.{script_bytes}
use Rattle.script_bytes.specs.ScriptOf.{has_entries, script_in, script_of}
use Rattle.script_bytes.specs.Written.{Written}

pub and_both : (a b : Bool) → a && b ≡ true → (a ≡ true) × (b ≡ true)
and_both true b e = (refl, e)
and_both false b e = absurd (false≢true e)

refused≢done : {n : ℕ} {A : Type 0} {a : A} → refused n ≡ done a → ⊥
refused≢done e = let z : ◌≡◌ {A = ℕ} 0 1 = cc in omega arith

done-injective : {A : Type 0} {a b : A} → done a ≡ done b → a ≡ b
done-injective e = cc

-- its bytes write it, and it is well typed
passed : (context : ℕ) (c : Context) (tree : Bytes) (words : ℕ) (x : Typed) → context_of context ≡ Some c → check_of context tree words ≡ done x
    → (tree_of tree ≡ done x.tree) × (type_of c x.tree ≡ Ok x.type)
unfolding check_of
passed context c tree words x known e = go (eqb words max_records) refl
  where
    go : (b : Bool) → eqb words max_records ≡ b → (tree_of tree ≡ done x.tree) × (type_of c x.tree ≡ Ok x.type)
    go true w =
        let same = eqb-true words max_records w in
        let Known-of = (passes-well-typed-trees context c tree x known).0 (rw same at e) in (Known-of.0, Known-of.1)
    go false w = absurd (refused≢done (rw (known, w) at e))

-- it has all its entries, and its script is what was written
written : (c : Context) (t : Tables) (room : ℕ) (f : Fragment) (bytes : Bytes) → script_in c t room f ≡ done bytes
    → (has_entries c t f ≡ true) × (script_bytes c t f ≡ bytes)
written c t room f bytes e = go (has_entries c t f) (leb (length (script_bytes c t f)) room) refl refl
  where
    go : (a b : Bool) → has_entries c t f ≡ a → leb (length (script_bytes c t f)) room ≡ b → (has_entries c t f ≡ true) × (script_bytes c t f ≡ bytes)
    go true true h l = (h, done-injective (rw (h, l) at e))
    go true false h l = absurd (refused≢done (rw (h, l) at e))
    go false b h l = absurd (refused≢done (rw h at e))

pub record Known (c : Context) (t : Tables) (x : Typed) (bytes : Bytes) : Type 0 where
  pub well : WellFormed x.tree
  pub typed : type_of c x.tree ≡ Ok x.type
  pub entries : has_entries c t x.tree ≡ true
  pub are : script_bytes c t x.tree ≡ bytes

pub known : (c : Context) (t : Tables) (x : Typed) (bytes : Bytes) → Written c t x bytes → Known c t x bytes
unfolding script_of
known c t x bytes w =
    let p = passed w.context c w.tree (length w.work) x w.in-context w.passes in
    let d = written c t (length w.out) x.tree bytes (rw (w.passes, w.in-context) at w.writes) in
    record { well = reads-well-formed w.tree w.of-bytes x.tree p.0; typed = p.1; entries = d.0; are = d.1 }
