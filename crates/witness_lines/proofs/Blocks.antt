-- A block to whose first bytes texts are added, one after the other. Assumes nothing.
use mathlib.Core.List.{List, [], ◌∷◌, ◌++◌, append_assoc}
use mathlib.Core.Path.{◌≡◌, refl, sym, ap, subst, ◌∙◌}
use Prim.Native.Nat.{ℕ, zero, suc, ◌+◌, ◌-◌, ◌/◌, ◌%◌, ◌^◌, ◌<◌, ◌≤◌}
use native.Mathlib.Nat.{pow-suc}
use native.Mathlib.Omega.{arith}
use lib.ListN.{length, take, length-append}
use lib.Seq.{take_at}
use Rattle.std.specs.Fmt as Fmt
use Rattle.std.proofs.lemmas.Fmt.{decimal_by_steps}
use Rattle.witness_tally.specs.declared.Outcome.{Outcome}
use Rattle.witness_tally.specs.declared.Tally.{Tally}
use Rattle.witness_lines.specs.Lines.{newline, space}
use Rattle.witness_lines.specs.Report.{none_word, refused_word, inputs_word, smallest_word, largest_word}
use Rattle.witness_lines.specs.Report.{last_digits, IsDigitCount, Number, Ending, bytes, none, refused, ReportLine, Row, Rows, Appended, AppendedDigits, Shows}

-- ---- what std writes of a number is its digits

abbrev Spelled : ℕ → List ℕ → Type 0
Spelled n ds = IsDigitCount n (length ds) × (ds ≡ last_digits (length ds) n)

pub spelled : (n : ℕ) → n < 2 ^ 64 → Spelled n (Fmt.decimal n)
spelled = decimal_by_steps Spelled one more
  where
    one : (n : ℕ) → n < 10 → Spelled n ((48 + n) ∷ [])
    one n l =
        let same : n % 10 ≡ n = omega arith in
        let ten : 10 ^ 1 ≡ 10 = refl in
        ((omega arith, omega (arith, l, ten), λ h. absurd (omega (arith, h))), rw same refl)

    more : (n : ℕ) (ds : List ℕ) → 10 ≤ n → Spelled (n / 10) ds → Spelled n (ds ++ ((48 + n % 10) ∷ []))
    more n ds l s =
        let k = length ds in
        let long : length (ds ++ ((48 + n % 10) ∷ [])) ≡ suc k = omega (arith, length-append ds ((48 + n % 10) ∷ [])) in
        let next = pow-suc 10 k in
        let few : n < 10 ^ suc k = omega (arith, s.0.1, next) in
        let less : suc k - 1 ≡ k = omega arith in
        let least : 10 ^ k ≤ n = at_least k s.0.0 s.0.2 in
        subst (λ (m : ℕ). IsDigitCount n m × (ds ++ ((48 + n % 10) ∷ []) ≡ last_digits m n)) (sym long)
        ((omega arith, few, λ h. subst (λ (x : ℕ). 10 ^ x ≤ n) (sym less) least), ap (λ (t : List ℕ). t ++ ((48 + n % 10) ∷ [])) s.1)
      where
        at_least : (k : ℕ) → 1 ≤ k → (1 < k → 10 ^ (k - 1) ≤ n / 10) → 10 ^ k ≤ n
        at_least zero a b = absurd (omega (arith, a))
        at_least (suc zero) a b = let ten : 10 ^ 1 ≡ 10 = refl in omega (arith, l, ten)
        at_least (suc (suc k)) a b =
            let less : suc (suc k) - 1 ≡ suc k = omega arith in
            let h : 10 ^ suc k ≤ n / 10 = subst (λ (x : ℕ). 10 ^ x ≤ n / 10) less (b (omega arith)) in
            omega (arith, h, pow-suc 10 (suc k))

-- ---- one text after another

pub then-appended : {s t out out' out'' : List ℕ} {used m r : ℕ} → Appended s out used out' m → Appended t out' m out'' r → Appended (s ++ t) out used out'' r
then-appended {s} {t} {out} {out'} {out''} {used} {m} {r} a b =
    record {
      counts = omega (arith, a.counts, b.counts, length-append s t);
      holds = b.holds ∙ ap (λ (x : List ℕ). x ++ t) a.holds ∙ append_assoc (take used out) s t;
      long = b.long ∙ a.long;
    }

-- of two kinds of text, the second after the first, where both together are of a third
then-shows : {P Q R : List ℕ → Type 0} {m n k : ℕ} {out out' out'' : List ℕ} {used i r : ℕ} → ((x y : List ℕ) → P x → Q y → R (x ++ y)) → m + n ≤ k
    → Shows P m out used out' i → Shows Q n out' i out'' r → Shows R k out used out'' r
then-shows joined fits a b =
    record {
      text = a.text ++ b.text;
      is = joined a.text b.text a.is b.is;
      few = omega (arith, length-append a.text b.text, a.few, b.few);
      appended = then-appended a.appended b.appended;
    }

abbrev Just : List ℕ → List ℕ → Type 0
Just s t = t ≡ s

just : {s out out' : List ℕ} {used r : ℕ} → Appended s out used out' r → Shows (Just s) (length s) out used out' r
just {s} a = record { text = s; is = refl; few = omega arith; appended = a }

-- ---- the lines of a report

module _ {out out' out'' : List ℕ} {used i r : ℕ} where
  pub number-shown : (n : ℕ) (row : List ℕ) {count : ℕ} → IsDigitCount n count → take count row ≡ last_digits count n
      → Appended (space ∷ []) out used out' i → AppendedDigits row count out' i out'' r → Shows (Number n) 21 out used out'' r
  number-shown n row {count} fewest written a b =
      record {
        text = space ∷ take count row;
        is = record { places = count; fewest = fewest; written = ap (λ (t : List ℕ). space ∷ t) written };
        few = omega (arith, b.few);
        appended = then-appended a b.appended;
      }

  -- the number that std's formatting spells, whose text stands at the front of a row
  pub text-shown : (n : ℕ) (rest : List ℕ) {text part : List ℕ} → n < 2 ^ 64 → text ≡ Fmt.decimal n → part ≡ text
      → Appended (space ∷ []) out used out' i → AppendedDigits (part ++ rest) (length text) out' i out'' r → Shows (Number n) 21 out used out'' r
  text-shown n rest {text} {part} h e same a b =
      let s = subst (Spelled n) (sym e) (spelled n h) in
      number-shown n (part ++ rest) s.0 (take_at part rest (length text) (ap length same) ∙ same ∙ s.1) a b

  pub line-shown : {shown : List ℕ} {o : Outcome} → Appended shown out used out' i → Shows (Ending o) 43 out' i out'' r
      → Shows (ReportLine shown o) (length shown + 43) out used out'' r
  line-shown {shown} {o} a b =
      then-shows {R = ReportLine shown o} (λ x y p q. record { ending = y; ends = q; is = ap (λ (s : List ℕ). s ++ y) p }) (omega arith) (just a) b

pub none-shown : {o : Outcome} {out out' : List ℕ} {used r : ℕ} → o ≡ Outcome.NoWay → Appended (space ∷ none_word ++ (newline ∷ [])) out used out' r
    → Shows (Ending o) 43 out used out' r
none-shown e a = record { text = space ∷ none_word ++ (newline ∷ []); is = rw e none; few = omega arith; appended = a }

module _ {out out' out'' out''' : List ℕ} {used i j r : ℕ} where
  pub bytes-shown : {o : Outcome} {a b : ℕ} → o ≡ Outcome.Bytes a b → Shows (Number a) 21 out used out' i → Shows (Number b) 21 out' i out'' j
      → Appended (newline ∷ []) out'' j out''' r → Shows (Ending o) 43 out used out''' r
  bytes-shown {o} {a} {b} e x y z =
      record {
        text = (x.text ++ y.text) ++ (newline ∷ []);
        is = rw e (bytes x.is y.is);
        few = omega (arith, x.few, y.few, length-append x.text y.text, length-append (x.text ++ y.text) (newline ∷ []));
        appended = then-appended (then-appended x.appended y.appended) z;
      }

  pub refused-shown : {o : Outcome} {n : ℕ} → o ≡ Outcome.Refused n → Appended (space ∷ refused_word) out used out' i
      → Shows (Number n) 21 out' i out'' j → Appended (newline ∷ []) out'' j out''' r → Shows (Ending o) 43 out used out''' r
  refused-shown {o} {n} e x y z =
      record {
        text = (space ∷ refused_word ++ y.text) ++ (newline ∷ []);
        is = rw e (refused y.is);
        few = omega (arith, y.few, length-append (space ∷ refused_word ++ y.text) (newline ∷ []));
        appended = then-appended (then-appended x y.appended) z;
      }

  pub row-shown : {word : List ℕ} {n : ℕ} → Appended word out used out' i → Shows (Number n) 21 out' i out'' j → Appended (newline ∷ []) out'' j out''' r
      → Shows (Row word n) (length word + 22) out used out''' r
  row-shown {word} {n} x y z =
      record {
        text = (word ++ y.text) ++ (newline ∷ []);
        is = record { number = y.text; shows = y.is; is = refl };
        few = omega (arith, y.few, length-append word y.text, length-append (word ++ y.text) (newline ∷ []));
        appended = then-appended (then-appended x y.appended) z;
      }

pub rows-shown : (t : Tally) {out o₁ o₂ o₃ o₄ o₅ : List ℕ} {used i j k l r : ℕ}
    → Shows (Row inputs_word t.inputs) 28 out used o₁ i → Shows (Row none_word t.none) 26 o₁ i o₂ j
    → Shows (Row refused_word t.refused) 29 o₂ j o₃ k → Shows (Row smallest_word t.smallest) 30 o₃ k o₄ l
    → Shows (Row largest_word t.largest) 29 o₄ l o₅ r → Shows (Rows t) 150 out used o₅ r
rows-shown t v w x y z =
    let a = v.text in
    let b = w.text in
    let c = x.text in
    let d = y.text in
    let e = z.text in
    let two = length-append a b in
    let three = length-append (a ++ b) c in
    let four = length-append ((a ++ b) ++ c) d in
    let five = length-append (((a ++ b) ++ c) ++ d) e in
    record {
      text = (((a ++ b) ++ c) ++ d) ++ e;
      is = record {
        a = a;
        b = b;
        c = c;
        d = d;
        e = e;
        inputs = v.is;
        none = w.is;
        refused = x.is;
        smallest = y.is;
        largest = z.is;
        is = refl;
      };
      few = omega (arith, v.few, w.few, x.few, y.few, z.few);
      appended = then-appended (then-appended (then-appended (then-appended v.appended w.appended) x.appended) y.appended) z.appended;
    }
