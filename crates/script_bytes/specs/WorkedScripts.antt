-- Worked scripts, for a reader who knows Bitcoin Script: trees with their bytes, and each number that the entry gives.
use Rattle.std.specs.Prelude.{ℕ, Bool, true, ◌&&◌, List, [], ◌∷◌, ◌++◌, ◌≡◌, replicate}
use Rattle.contexts.specs.declared.Context.TheVariants.{Segwitv0, Tap}
use Rattle.contexts.specs.Leaves.{After, Older, Sha256, Hash256, Ripemd160, Hash160}
use Rattle.trees.specs.Fragment.{Fragment, end, ◌▹◌, False, True, PkK, PkH, Lock, Hash}
use Rattle.trees.specs.Fragment.{Alt, Swap, Check, DupIf, Verify, NonZero, AndB, AndV, OrB, OrD, OrI, AndOr, Thresh, Multi, MultiA}
use Rattle.trees.specs.Reading.{refused, done}
use Rattle.script_machine.specs.Numbers.{Bytes, same}
use Rattle.script_bytes.specs.Tables.{Tables, tables}
use Rattle.script_bytes.specs.Encoding.{script_bytes}
use Rattle.script_bytes.specs.ScriptOf.{script_of}

-- BIP 173's key, the point G compressed; in context 1 without its first byte; and toys for a second key, for hashes and for their tables
abbrev pub x-of-G : Bytes
x-of-G =
    0x79 ∷ 0xbe ∷ 0x66 ∷ 0x7e ∷ 0xf9 ∷ 0xdc ∷ 0xbb ∷ 0xac ∷ 0x55 ∷ 0xa0 ∷ 0x62 ∷ 0x95 ∷ 0xce ∷ 0x87 ∷ 0x0b ∷ 0x07
    ∷ 0x02 ∷ 0x9b ∷ 0xfc ∷ 0xdb ∷ 0x2d ∷ 0xce ∷ 0x28 ∷ 0xd9 ∷ 0x59 ∷ 0xf2 ∷ 0x81 ∷ 0x5b ∷ 0x16 ∷ 0xf8 ∷ 0x17 ∷ 0x98 ∷ []

abbrev pub G : Bytes
G = 0x02 ∷ x-of-G

abbrev pub other : Bytes
other = replicate 32 7

abbrev pub in0 : Tables
in0 = tables (G ++ 0x03 ∷ other) (replicate 20 1) (replicate 32 2) (replicate 20 3 ++ replicate 20 4)

abbrev pub in1 : Tables
in1 = tables (x-of-G ++ other) (replicate 20 1) (replicate 32 2) (replicate 20 3 ++ replicate 20 4)

-- A tree in a context with the bytes of its script.
pub data Case : Type 0 where
  in-0 : Fragment → Bytes → Case
  in-1 : Fragment → Bytes → Case

abbrev pub holds : Case → Bool
holds (in-0 f bytes) = same (script_bytes Segwitv0 in0 f) bytes
holds (in-1 f bytes) = same (script_bytes Tap in1 f) bytes

unfoldable pub all_hold : List Case → Bool
all_hold [] = true
all_hold (x ∷ xs) = holds x && all_hold xs

abbrev pub cases : List Case
cases =
    -- BIP 173's script: pk(G)
    in-0 (Check (PkK 0)) (0x21 ∷ G ++ 0xac ∷ [])
    -- the same in Tapscript
    ∷ in-1 (Check (PkK 0)) (0x20 ∷ x-of-G ++ 0xac ∷ [])
    -- and_v(v:pkh(G),older(144)): CHECKSIGVERIFY; 144 takes two bytes
    ∷ in-0 (AndV (Verify (Check (PkH 0))) (Lock Older 144))
    (0x76 ∷ 0xa9 ∷ 0x14 ∷ replicate 20 1 ++ 0x88 ∷ 0xad ∷ 0x02 ∷ 0x90 ∷ 0x00 ∷ 0xb2 ∷ [])
    -- and_v(v:older(16),1): VERIFY after CSV, which has no VERIFY form; 16 is OP_16
    ∷ in-1 (AndV (Verify (Lock Older 16)) True) (0x60 ∷ 0xb2 ∷ 0x69 ∷ 0x51 ∷ [])
    -- and_v(v:sha256(0),hash160(1)): EQUALVERIFY, then EQUAL
    ∷ in-0 (AndV (Verify (Hash Sha256 0)) (Hash Hash160 1))
    (0x82 ∷ 0x01 ∷ 0x20 ∷ 0x88 ∷ 0xa8 ∷ 0x20 ∷ replicate 32 2 ++ 0x88
    ∷ 0x82 ∷ 0x01 ∷ 0x20 ∷ 0x88 ∷ 0xa9 ∷ 0x14 ∷ replicate 20 4 ++ 0x87 ∷ [])
    -- v:multi(1,G,other) and v:multi_a(1,G,other)
    ∷ in-0 (Verify (Multi 1 (0 ∷ 1 ∷ []))) (0x51 ∷ 0x21 ∷ G ++ 0x21 ∷ 0x03 ∷ other ++ 0x52 ∷ 0xaf ∷ [])
    ∷ in-1 (Verify (MultiA 1 (0 ∷ 1 ∷ []))) (0x20 ∷ x-of-G ++ 0xac ∷ 0x20 ∷ other ++ 0xba ∷ 0x51 ∷ 0x9d ∷ [])
    -- the same without v: CHECKMULTISIG, NUMEQUAL
    ∷ in-0 (Multi 1 (0 ∷ 1 ∷ [])) (0x51 ∷ 0x21 ∷ G ++ 0x21 ∷ 0x03 ∷ other ++ 0x52 ∷ 0xae ∷ [])
    ∷ in-1 (MultiA 1 (0 ∷ 1 ∷ [])) (0x20 ∷ x-of-G ++ 0xac ∷ 0x20 ∷ other ++ 0xba ∷ 0x51 ∷ 0x9c ∷ [])
    -- ripemd160(0) and hash256(0)
    ∷ in-0 (Hash Ripemd160 0) (0x82 ∷ 0x01 ∷ 0x20 ∷ 0x88 ∷ 0xa6 ∷ 0x14 ∷ replicate 20 3 ++ 0x87 ∷ [])
    ∷ in-1 (Hash Hash256 0) (0x82 ∷ 0x01 ∷ 0x20 ∷ 0x88 ∷ 0xaa ∷ 0x20 ∷ replicate 32 2 ++ 0x87 ∷ [])
    -- after(100): CLTV; l:after(100): False is OP_0
    ∷ in-0 (Lock After 100) (0x01 ∷ 0x64 ∷ 0xb1 ∷ [])
    ∷ in-0 (OrI False (Lock After 100)) (0x63 ∷ 0x00 ∷ 0x67 ∷ 0x01 ∷ 0x64 ∷ 0xb1 ∷ 0x68 ∷ [])
    -- and_b(pk(G),s:pk(other)) and or_b(pk(G),s:pk(other)): BOOLAND, BOOLOR
    ∷ in-1 (AndB (Check (PkK 0)) (Swap (Check (PkK 1)))) (0x20 ∷ x-of-G ++ 0xac ∷ 0x7c ∷ 0x20 ∷ other ++ 0xac ∷ 0x9a ∷ [])
    ∷ in-1 (OrB (Check (PkK 0)) (Swap (Check (PkK 1)))) (0x20 ∷ x-of-G ++ 0xac ∷ 0x7c ∷ 0x20 ∷ other ++ 0xac ∷ 0x9b ∷ [])
    -- v:thresh(2,pk(G),s:pk(other),a:pk(G)) in Tapscript
    ∷ in-1 (Verify (Thresh 2 (Check (PkK 0) ▹ Swap (Check (PkK 1)) ▹ Alt (Check (PkK 0)) ▹ end)))
    (0x20 ∷ x-of-G ++ 0xac ∷ 0x7c ∷ 0x20 ∷ other ++ 0xac ∷ 0x93 ∷ 0x6b ∷ 0x20 ∷ x-of-G ++ 0xac ∷ 0x6c ∷ 0x93 ∷ 0x52 ∷ 0x88 ∷ [])
    -- or_d(pk(G),andor(j:pk(other),dv:older(2147483647),or_i(1,1))) in Tapscript: every condition, and the largest lock
    ∷ in-1
    (OrD (Check (PkK 0)) (AndOr (NonZero (Check (PkK 1))) (DupIf (Verify (Lock Older 2147483647))) (OrI True True)))
    (0x20 ∷ x-of-G ++ 0xac ∷ 0x73 ∷ 0x64 ∷ 0x82 ∷ 0x92 ∷ 0x63 ∷ 0x20 ∷ other ++ 0xac ∷ 0x68 ∷ 0x64 ∷ 0x63 ∷ 0x51 ∷ 0x67 ∷ 0x51 ∷ 0x68
    ∷ 0x67 ∷ 0x76 ∷ 0x63 ∷ 0x04 ∷ 0xff ∷ 0xff ∷ 0xff ∷ 0x7f ∷ 0xb2 ∷ 0x69 ∷ 0x68 ∷ 0x68 ∷ 0x68 ∷ [])
    ∷ []

abbrev pub WorkedScripts : Type 0
WorkedScripts = all_hold cases ≡ true

-- PkK of a key in one byte, then Check over it
abbrev pub pk_tree : (key : ℕ) → Bytes
pk_tree key = 8 ∷ 0 ∷ 34 ∷ 0 ∷ key ∷ 0 ∷ 0 ∷ 0 ∷ 6 ∷ 0 ∷ 44 ∷ 0 ∷ 0 ∷ 0 ∷ []

abbrev pub room : ℕ → Bytes
room n = replicate n 0

abbrev pub words : ℕ → List ℕ
words n = replicate n 0

-- What the entry gives: a script that just fits, and each refusal before those behind it.
pub record WorkedAnswers : Type 0 where
  pub written : script_of 0 (pk_tree 0) in0 (room 35) (words 4096) ≡ done (0x21 ∷ G ++ 0xac ∷ [])
  pub bad-context : script_of 2 [] in0 [] [] ≡ refused 1
  pub bad-work : script_of 0 [] in0 [] (words 3) ≡ refused 2
  pub bad-tree : script_of 0 [] in0 [] (words 4096) ≡ refused 14
  pub no-entry : script_of 0 (pk_tree 2) in0 [] (words 4096) ≡ refused 17
  pub short-entry : script_of 0 (pk_tree 1) in1 [] (words 4096) ≡ refused 17
  pub too_small : script_of 0 (pk_tree 0) in0 (room 34) (words 4096) ≡ refused 13
