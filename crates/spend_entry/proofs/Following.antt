-- Entries up to the log's end, reported one by one: what is still to come. Assumes nothing.
use Prim.Native.Nat.{ℕ, suc, ◌+◌, ◌*◌, ◌≤◌, ◌<◌}
use mathlib.Core.List.{List, [], ◌∷◌}
use Rattle.std.specs.Prelude.{Option, None, Some}
use mathlib.Core.Path.{◌≡◌, refl, sym, ap, ◌∙◌}
use native.Mathlib.Omega.{arith}
use lib.ListN.{length, drop, length-drop}
use Rattle.contexts.specs.declared.Context.{Context}
use Rattle.trees.specs.Fragment.{Fragment}
use Rattle.script_machine.specs.Numbers.{Bytes}
use Rattle.script_bytes.specs.Tables.{Tables}
use Rattle.spend_machine.specs.Entries.{Entry}
use Rattle.spend_machine.specs.Verdicts.{reports}
use Rattle.spend_log.specs.Readers.{Read, give, onward, to_end}
use Rattle.spend_log.specs.Logs.{entry}
use Rattle.spend_log.proofs.Passing.{some_same, takes-less, to_end-next, to_end-broken, to_end-done}
use Rattle.spend_log.proofs.Parts.{takes-entry}
use Rattle.spend_judge.specs.Places.{Stands}
use Rattle.spend_entry.specs.Results.{put_reports, read_or, entries_from, Follow, Reported}

never : {A B : Type 0} {x : B} → None ≡ Some x → A
never e = absurd (let z : ◌≡◌ {A = ℕ} 0 1 = cc in omega arith)

module _ (log : Bytes) where
  -- the first of the entries that follow, and the others
  pub record First (at : ℕ) (es : List Entry) : Type 0 where
    pub read : Read Entry
    pub reads : entry (drop at log) ≡ Some read
    pub others : Read (List Entry)
    pub follow : to_end entry read.behind ≡ Some others
    pub are : es ≡ read.value ∷ others.value

  pub first_of : (at : ℕ) (g : Read (List Entry)) → at < length log → to_end entry (drop at log) ≡ Some g → First at g.value
  first_of at g h e = by-entry (entry (drop at log)) refl
    where
      some_bytes : 0 < length (drop at log)
      some_bytes = omega (arith, length-drop at log)

      by-others : (f : Read Entry) → entry (drop at log) ≡ Some f → (o : Option (Read (List Entry))) → to_end entry f.behind ≡ o
          → onward o (λ es. give (f.value ∷ es)) ≡ Some g → First at g.value
      by-others f k None l n = never n
      by-others f k (Some x) l n =
          record { read = f; reads = k; others = x; follow = l; are = ap (λ (r : Read (List Entry)). r.value) (sym (some_same n)) }

      by-entry : (o : Option (Read Entry)) → entry (drop at log) ≡ o → First at g.value
      by-entry None k = never (sym (to_end-broken entry (takes-less (omega arith) takes-entry) (drop at log) some_bytes k) ∙ e)
      by-entry (Some f) k =
          by-others f k (to_end entry f.behind) refl
          (sym (to_end-next entry (takes-less (omega arith) takes-entry) (drop at log) f k) ∙ e)

  pub none-follow : (at : ℕ) (g : Read (List Entry)) → length log ≤ at → to_end entry (drop at log) ≡ Some g → g.value ≡ []
  none-follow at g h e =
      let l : length (drop at log) ≡ 0 = omega (arith, length-drop at log) in
      ap (λ (r : Read (List Entry)). r.value) (sym (some_same (sym (to_end-done entry (drop at log) l) ∙ e)))

module _ (c : Context) (t : Tables) (f : Fragment) where
  -- entries from a place on are reported, i of them so far: the others follow here
  pub record ToCome (log : Bytes) (at : ℕ) (before after : Bytes) (to i : ℕ) : Type 0 where
    pub follow : Follow log to
    pub tells : put_reports after i (reports c t f (entries_from log to)) ≡ put_reports before 0 (reports c t f (entries_from log at))
    pub counts : i + length (entries_from log to) ≡ length (entries_from log at)
    pub same : length after ≡ length before

  pub all_come : (log : Bytes) (at : ℕ) (before : Bytes) → Follow log at → ToCome log at before before at 0
  all_come log at before s = record { follow = s; tells = refl; counts = omega arith; same = refl }

  module _ {log : Bytes} {at : ℕ} {before after : Bytes} {to i : ℕ} (s : ToCome log at before after to i) where
    from_is : entries_from log to ≡ s.follow.read.value
    from_is = ap (read_or []) s.follow.reads

    module _ (more : to < length log) where
      abbrev first : First log to s.follow.read.value
      first = first_of log to s.follow.read more s.follow.reads

      pub stands-next : Stands log to
      stands-next = record { within = s.follow.within; read = first.read; reads = first.reads }

      pub fits_next : 8 * length (entries_from log at) ≤ length before → 8 * i + 8 ≤ length after
      fits_next h =
          let many : length (entries_from log to) ≡ suc (length first.others.value) = ap length (from_is ∙ first.are) in
          omega (arith, s.counts, s.same)

      module _ {next-after : Bytes} {next : ℕ} (r : Reported c t f log to i after next-after next) where
        others-follow : to_end entry (drop next log) ≡ Some first.others
        others-follow = ap (to_end entry) (sym (r.behind first.read first.reads)) ∙ first.follow

        pub more-come : ToCome log at before next-after next (i + 1)
        unfolding put_reports
        more-come =
            let these : entries_from log to ≡ first.read.value ∷ first.others.value = from_is ∙ first.are in
            let rest : entries_from log next ≡ first.others.value = ap (read_or []) others-follow in
            let suc-i : i + 1 ≡ suc i = omega arith in
            record {
              follow = record { within = r.within; read = first.others; reads = others-follow };
              tells =
                  ap (λ (es : List Entry). put_reports next-after (i + 1) (reports c t f es)) rest
                  ∙ ap (λ (n : ℕ). put_reports next-after n (reports c t f first.others.value)) suc-i
                  ∙ ap (λ (m : Bytes). put_reports m (suc i) (reports c t f first.others.value)) (r.tells first.read first.reads)
                  ∙ sym (ap (λ (es : List Entry). put_reports after i (reports c t f es)) these)
                  ∙ s.tells;
              counts = omega (arith, ap length these, ap length rest, s.counts);
              same = r.same ∙ s.same;
            }

    pub none-come : length log ≤ to → after ≡ put_reports before 0 (reports c t f (entries_from log at))
    unfolding put_reports
    none-come h =
        let none_left : entries_from log to ≡ [] = from_is ∙ none-follow log to s.follow.read h s.follow.reads in
        sym (ap (λ (es : List Entry). put_reports after i (reports c t f es)) none_left) ∙ s.tells
