-- Entries don't affect one another: document 02, R-6.
use Rattle.std.specs.Prelude.{ℕ, List, ◌++◌, map, ◌≡◌, get_or, length}
use Rattle.contexts.specs.declared.Context.{Context}
use Rattle.trees.specs.Fragment.{Fragment}
use Rattle.script_bytes.specs.Tables.{Tables}
use Rattle.spend_machine.specs.Entries.{Entry}
use Rattle.spend_machine.specs.Verdicts.{Verdict, report, reports}

-- Entries in an order, given by their places; e stands for places that there are not.
abbrev pub in_order : {A : Type 0} → List A → A → List ℕ → List A
in_order xs x order = map (λ i. get_or xs i x) order

-- Entries in another order have their reports in that order, and each entry has one report.
pub record EntriesApart (c : Context) (t : Tables) (f : Fragment) : Type 0 where
  pub reordered : (es : List Entry) (e : Entry) (order : List ℕ)
      → reports c t f (in_order es e order) ≡ in_order (reports c t f es) (report c t f e) order
  pub joined : (xs ys : List Entry) → reports c t f (xs ++ ys) ≡ reports c t f xs ++ reports c t f ys
  pub counted : (es : List Entry) → length (reports c t f es) ≡ length es
