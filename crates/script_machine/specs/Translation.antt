-- The script of a fragment tree, from document 01, "What a fragment's script does", and BIP 379's translation.
use Rattle.std.specs.Prelude.{ℕ, List, [], ◌∷◌, ◌++◌, map, length}
use Rattle.trees.specs.Fragment.{Fragment, Fragments, end, ◌▹◌, False, True, PkK, PkH, Lock, Hash}
use Rattle.contexts.specs.Leaves.{After, Older, Hash160}
use Rattle.trees.specs.Fragment.{Alt, Swap, Check, DupIf, Verify, NonZero, ZeroNotEqual}
use Rattle.trees.specs.Fragment.{AndB, AndV, OrB, OrD, OrC, OrI, AndOr, Thresh, Multi, MultiA}
use Rattle.script_machine.specs.Words.{Word, <n>, <key>, <keyhash>, <h>, DUP, IFDUP, SWAP, SIZE, TOALTSTACK, FROMALTSTACK, VERIFY, HASH}
use Rattle.script_machine.specs.Words.{CHECKLOCKTIMEVERIFY, CHECKSEQUENCEVERIFY, 0NOTEQUAL, BOOLAND, BOOLOR, ADD, IF, NOTIF, ELSE, ENDIF}
use Rattle.script_machine.specs.Words.{EQUAL, NUMEQUAL, CHECKSIG, CHECKMULTISIG, CHECKSIGADD, EQUALVERIFY}

-- MultiA's keys: the first with CHECKSIG, each other with CHECKSIGADD.
abbrev pub sig_adds : List ℕ → List Word
sig_adds [] = []
sig_adds (n ∷ ns) = <key> n ∷ CHECKSIGADD ∷ sig_adds ns

abbrev pub sig_sum : List ℕ → List Word
sig_sum [] = []
sig_sum (n ∷ ns) = <key> n ∷ CHECKSIG ∷ sig_adds ns

-- BIP 379 writes v:X in two ways, so `v` says what a Verify makes of the script of its child.
module _ (v : List Word → List Word) where
  unfoldable mutual
    pub ⟦◌⟧ : Fragment → List Word
    ⟦ False ⟧ = <n> 0 ∷ []
    ⟦ True ⟧ = <n> 1 ∷ []
    ⟦ PkK n ⟧ = <key> n ∷ []
    ⟦ PkH n ⟧ = DUP ∷ HASH Hash160 ∷ <keyhash> n ∷ EQUALVERIFY ∷ []
    ⟦ Lock After n ⟧ = <n> n ∷ CHECKLOCKTIMEVERIFY ∷ []
    ⟦ Lock Older n ⟧ = <n> n ∷ CHECKSEQUENCEVERIFY ∷ []
    ⟦ Hash kind h ⟧ = SIZE ∷ <n> 32 ∷ EQUALVERIFY ∷ HASH kind ∷ <h> kind h ∷ EQUAL ∷ []
    ⟦ Alt x ⟧ = TOALTSTACK ∷ ⟦ x ⟧ ++ FROMALTSTACK ∷ []
    ⟦ Swap x ⟧ = SWAP ∷ ⟦ x ⟧
    ⟦ Check x ⟧ = ⟦ x ⟧ ++ CHECKSIG ∷ []
    ⟦ DupIf x ⟧ = DUP ∷ IF ∷ ⟦ x ⟧ ++ ENDIF ∷ []
    ⟦ Verify x ⟧ = v ⟦ x ⟧
    ⟦ NonZero x ⟧ = SIZE ∷ 0NOTEQUAL ∷ IF ∷ ⟦ x ⟧ ++ ENDIF ∷ []
    ⟦ ZeroNotEqual x ⟧ = ⟦ x ⟧ ++ 0NOTEQUAL ∷ []
    ⟦ AndB x y ⟧ = ⟦ x ⟧ ++ ⟦ y ⟧ ++ BOOLAND ∷ []
    ⟦ AndV x y ⟧ = ⟦ x ⟧ ++ ⟦ y ⟧
    ⟦ OrB x y ⟧ = ⟦ x ⟧ ++ ⟦ y ⟧ ++ BOOLOR ∷ []
    ⟦ OrD x y ⟧ = ⟦ x ⟧ ++ IFDUP ∷ NOTIF ∷ ⟦ y ⟧ ++ ENDIF ∷ []
    ⟦ OrC x y ⟧ = ⟦ x ⟧ ++ NOTIF ∷ ⟦ y ⟧ ++ ENDIF ∷ []
    ⟦ OrI x y ⟧ = IF ∷ ⟦ x ⟧ ++ ELSE ∷ ⟦ y ⟧ ++ ENDIF ∷ []
    ⟦ AndOr x y z ⟧ = ⟦ x ⟧ ++ NOTIF ∷ ⟦ z ⟧ ++ ELSE ∷ ⟦ y ⟧ ++ ENDIF ∷ []
    ⟦ Thresh k xs ⟧ = sum xs ++ <n> k ∷ EQUAL ∷ []
    ⟦ Multi k keys ⟧ = <n> k ∷ map <key> keys ++ <n> (length keys) ∷ CHECKMULTISIG ∷ []
    ⟦ MultiA k keys ⟧ = sig_sum keys ++ <n> k ∷ NUMEQUAL ∷ []

    -- Thresh's children: the first alone, each other with ADD.
    pub sum : Fragments → List Word
    sum end = []
    sum (x ▹ xs) = ⟦ x ⟧ ++ adds xs

    pub adds : Fragments → List Word
    adds end = []
    adds (x ▹ xs) = ⟦ x ⟧ ++ ADD ∷ adds xs

-- Document 01 writes it with the word VERIFY: this is the script of a tree.
abbrev pub and_verify : List Word → List Word
and_verify ws = ws ++ VERIFY ∷ []

unfoldable pub script : Fragment → List Word
script f = ⟦◌⟧ and_verify f
