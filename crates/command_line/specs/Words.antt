-- What the words of the command line ask: docs/CONSOLE.md. Word 0 is the program's own name, word 1 names the command, then comes CONTEXT (for a
-- script that is shown word by word `--words` before it, and for a mover none), and the files follow. Assumes nothing.
use Rattle.std.specs.Prelude.{ℕ, cond, List, [], ◌∷◌, ◌≡◌, leb, ltb, Option, None, Some}
use Prim.Native.Char.{code}
use Prim.Native.String.{String}
use Prim.Native.String.{[] as empty, ◌∷◌ as ◌then◌}
use Rattle.command_line.specs.declared.Asked.{Asked}
use Rattle.command_line.specs.declared.Command.{Command}
use Rattle.command_line.specs.declared.Command.TheVariants.{Compile, Size, Check, Script, Words, Differ, Index, At, Accept, New, Old}
use Rattle.command_line.specs.declared.Count.{Count}
use Rattle.command_line.specs.declared.Count.TheVariants.{TooFew, TooMany, Right}

-- the bytes of a text in ASCII
abbrev pub bytes : String → List ℕ
bytes empty = []
bytes (c then s) = code c ∷ bytes s

-- no word of the first five commands, and of the last five
abbrev pub NoneOfFirst : List ℕ → Type 0
NoneOfFirst word =
    (word ≡ bytes "compile" → ⊥) × (word ≡ bytes "size" → ⊥) × (word ≡ bytes "check" → ⊥) × (word ≡ bytes "script" → ⊥) × (word ≡ bytes "differ" → ⊥)

abbrev pub NoneOfLater : List ℕ → Type 0
NoneOfLater word =
    (word ≡ bytes "index" → ⊥) × (word ≡ bytes "at" → ⊥) × (word ≡ bytes "accept" → ⊥) × (word ≡ bytes "new" → ⊥) × (word ≡ bytes "old" → ⊥)

-- the command that a word names; any other word names none, and that a script is shown word by word is said by the word after it
abbrev pub Names : List ℕ → Option Command → Type 0
Names word (Some Compile) = word ≡ bytes "compile"
Names word (Some Size) = word ≡ bytes "size"
Names word (Some Check) = word ≡ bytes "check"
Names word (Some Script) = word ≡ bytes "script"
Names word (Some Words) = ⊥
Names word (Some Differ) = word ≡ bytes "differ"
Names word (Some Index) = word ≡ bytes "index"
Names word (Some At) = word ≡ bytes "at"
Names word (Some Accept) = word ≡ bytes "accept"
Names word (Some New) = word ≡ bytes "new"
Names word (Some Old) = word ≡ bytes "old"
Names word None = NoneOfFirst word × NoneOfLater word

-- the same of the last five alone
abbrev pub NamesLater : List ℕ → Option Command → Type 0
NamesLater word (Some Compile) = ⊥
NamesLater word (Some Size) = ⊥
NamesLater word (Some Check) = ⊥
NamesLater word (Some Script) = ⊥
NamesLater word (Some Words) = ⊥
NamesLater word (Some Differ) = ⊥
NamesLater word (Some Index) = word ≡ bytes "index"
NamesLater word (Some At) = word ≡ bytes "at"
NamesLater word (Some Accept) = word ≡ bytes "accept"
NamesLater word (Some New) = word ≡ bytes "new"
NamesLater word (Some Old) = word ≡ bytes "old"
NamesLater word None = NoneOfLater word

-- the place of CONTEXT, none for a mover, which takes none
abbrev pub context_place : Command → Option ℕ
context_place Compile = Some 2
context_place Size = Some 2
context_place Check = Some 2
context_place Script = Some 2
context_place Words = Some 3
context_place Differ = Some 2
context_place Index = Some 2
context_place At = Some 2
context_place Accept = Some 2
context_place New = None
context_place Old = None

-- the last word that a command needs, and the most that it takes: OUTPUT may be left out, but for a mover's
abbrev pub last_word : Command → ℕ
last_word Compile = 3
last_word Size = 3
last_word Check = 3
last_word Script = 7
last_word Words = 8
last_word Differ = 4
last_word Index = 3
last_word At = 5
last_word Accept = 4
last_word New = 3
last_word Old = 3

abbrev pub most_words : Command → ℕ
most_words Compile = 5
most_words Size = 4
most_words Check = 4
most_words Script = 9
most_words Words = 10
most_words Differ = 5
most_words Index = 5
most_words At = 6
most_words Accept = 5
most_words New = 4
most_words Old = 4

-- how so many words suit a command
abbrev pub count_for : Command → (words : ℕ) → Count
count_for command words = cond (leb words (last_word command)) TooFew (cond (ltb (most_words command) words) TooMany Right)

-- what a command asks in a context; nothing without one. A mover asks the same in any, and its context is 0.
abbrev pub asked_in : Command → (context : ℕ) → Asked
asked_in Compile n = record { command = Compile; context = n }
asked_in Size n = record { command = Size; context = n }
asked_in Check n = record { command = Check; context = n }
asked_in Script n = record { command = Script; context = n }
asked_in Words n = record { command = Words; context = n }
asked_in Differ n = record { command = Differ; context = n }
asked_in Index n = record { command = Index; context = n }
asked_in At n = record { command = At; context = n }
asked_in Accept n = record { command = Accept; context = n }
asked_in New n = record { command = New; context = 0 }
asked_in Old n = record { command = Old; context = 0 }

abbrev pub asked_of : Command → Option ℕ → Option Asked
asked_of command (Some n) = Some (asked_in command n)
asked_of command None = None
