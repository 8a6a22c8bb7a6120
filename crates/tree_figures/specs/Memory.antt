-- The figures of records in work memory, sixteen words a record, one for each figure.
use Rattle.figures.specs.declared.SatData.{SatData}
use Rattle.std.specs.Prelude.{ℕ, ◌+◌, ◌*◌, ◌≤◌, ◌<◌, cond, List, [], ◌∷◌, ◌++◌, map, ◌≡◌, eqb, length, get_or, take, drop, Option, None, Some}
use Rattle.records.specs.Payloads.{Payload, number_of, k_of, count_of, children_of}
use Rattle.records.specs.RecordForm.{kind_of, fragment_payload}
use Rattle.contexts.specs.declared.Context.{Context}
use Rattle.figures.specs.declared.ExtData.{ExtData}
use Rattle.figures.specs.Bounds.{Entered}
use Rattle.figures.specs.Rules.{num, sat_data, ext}
use Rattle.figure_rules.specs.ByKind.{blank, figures_by}

-- a worst case: 1 and its five figures, or zeros where there is none
abbrev pub sat_words : Option SatData → List ℕ
sat_words (Some d) =
    1 ∷ d.max_witness_stack_size ∷ d.max_witness_stack_count ∷ d.max_script_sig_size ∷ d.max_exec_stack_count ∷ d.max_exec_op_count ∷ []
sat_words None = 0 ∷ 0 ∷ 0 ∷ 0 ∷ 0 ∷ 0 ∷ []

abbrev pub figure_words : ExtData → List ℕ
figure_words x =
    x.pk_cost ∷ num x.has_free_verify ∷ x.static_ops ∷ x.tree_height ∷ (sat_words x.sat_data ++ sat_words x.dissat_data)

abbrev pub sat_in : (words : List ℕ) → (at : ℕ) → Option SatData
sat_in words at =
    cond (eqb (get_or words at 0) 1)
    (Some (sat_data (get_or words (at + 1) 0) (get_or words (at + 2) 0) (get_or words (at + 3) 0) (get_or words (at + 4) 0) (get_or words (at + 5) 0)))
    None

abbrev pub figures_in : List ℕ → ExtData
figures_in words = ext (get_or words 0 0) (eqb (get_or words 1 0) 1) (get_or words 2 0) (sat_in words 4) (sat_in words 10) (get_or words 3 0)

-- those of record i
unfoldable pub figures_at : List ℕ → ℕ → ExtData
figures_at work i = figures_in (take 16 (drop (16 * i) work))

unfoldable pub put_figures : List ℕ → ℕ → ExtData → List ℕ
put_figures work i x = take (16 * i) work ++ (figure_words x ++ drop (16 * i + 16) work)

-- those of the first n of some records, and none past them
pub record Loaded (work numbers : List ℕ) (n : ℕ) (out : List ExtData) : Type 0 where
  pub long : length out ≡ 16
  pub each : (j : ℕ) → j < n → get_or out j blank ≡ figures_at work (get_or numbers j 0)
  pub past : (j : ℕ) → n ≤ j → get_or out j blank ≡ blank

-- what a record's bytes come to, where work memory has the figures of the records before it
abbrev pub figures_with : Context → (kind : ℕ) → Option Payload → (work : List ℕ) → ExtData
figures_with c kind (Some p) work = figures_by c kind (number_of p) (k_of p) (count_of p) (map (figures_at work) (children_of p))
figures_with c kind None work = blank

abbrev pub figures_here : Context → (bytes work : List ℕ) → ExtData
figures_here c bytes work = figures_with c (kind_of bytes) (fragment_payload bytes) work

-- record i is of the form, and the figures of the records before it stand in work memory
pub record Stands (bytes work : List ℕ) (i : ℕ) : Type 0 where
  pub payload : Payload
  pub fits : fragment_payload bytes ≡ Some payload
  pub before : (j : ℕ) → j < length (children_of payload) → get_or (children_of payload) j 0 < i
  pub bounds : 56 ≤ kind_of bytes → (1 ≤ k_of payload) × (k_of payload ≤ count_of payload) × (count_of payload ≤ 16)
  pub few : i < 4096
  pub room : length work ≡ 65536
  pub entered : (j : ℕ) → j < i → Entered i (figures_at work j)
