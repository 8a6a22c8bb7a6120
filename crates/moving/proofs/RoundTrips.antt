-- What holds of moving, but for which keys are too large: specs/Laws.antt. Assumes nothing.
use mathlib.Core.Path.{◌≡◌, refl, sym, ap, ◌∙◌}
use mathlib.Core.Bool.{Bool, false}
use mathlib.Core.List.{List, [], ◌∷◌, map}
use Prim.Native.Nat.{ℕ, ◌≤◌}
use borrow.Author.Tests.{le-ltb}
use lib.Dec.{ltb}
use lib.ListN.{length}
use Rattle.writing.specs.WellFormed.{AllBelow}
use Rattle.policies.specs.Policy.{Policy}
use Rattle.policies.specs.Reading.{done, ◌>>=◌, refuse_if, read_policy, max_records}
use Rattle.moving.specs.declared.Form.{Form}
use Rattle.moving.specs.declared.Form.TheVariants.{Old, New}
use Rattle.moving.specs.Moving.{moves, moved, too_large, records_of, in_order, any, moved_policy, move, key_too_large, output_too_small}
use Rattle.moving.specs.Laws.{RefusedAsRead, fitting, ToNew, SamePolicy, AllMoved, OldNewOld, NewOldNew}
use Rattle.moving.proofs.Records.{rest, large}
use Rattle.moving.proofs.OneKey.{Fine, moved-moves, record-back, new-fits-old, record-again, fits-new}
use Rattle.moving.proofs.ReadMoved.{then-done, not-refused, or-none, Each, split, moving, Moving}

-- ---- refusals

pub refused-as-read : RefusedAsRead
unfolding move
refused-as-read form policy room n e = rw e

-- the answer for a policy that is read
pub when-read : (form : Form) (policy : List ℕ) (room : ℕ) {q : Policy} → read_policy policy ≡ done q
    → move form policy room ≡ refuse_if key_too_large (any (too_large form) (records_of policy)) (moved_policy form policy) >>= λ to. fitting room to
unfolding move
when-read form policy room e = rw e

all-fit-new : (rs : List (List ℕ)) → any (too_large New) rs ≡ false
unfolding any
all-fit-new [] = refl
all-fit-new (r ∷ rs) = rw (fits-new r, all-fit-new rs)

pub to-new : ToNew
to-new policy room q e = when-read New policy room e ∙ rw (all-fit-new (records_of policy))

-- ---- a policy that is moved

pub record Done (form : Form) (policy : List ℕ) (room : ℕ) (to : List ℕ) : Type 0 where
  pub policy-is : Policy
  pub read : read_policy policy ≡ done policy-is
  pub small : any (too_large form) (records_of policy) ≡ false
  pub is : to ≡ moved_policy form policy

pub is-done : (form : Form) (policy : List ℕ) (room : ℕ) (to : List ℕ) → move form policy room ≡ done to → Done form policy room to
unfolding move
is-done form policy room to e =
    let over : Bool = any (too_large form) (records_of policy) in
    let a = then-done (read_policy policy) (λ (_ : Policy). refuse_if key_too_large over (moved_policy form policy) >>= λ to. fitting room to) e in
    let b = then-done (refuse_if key_too_large over (moved_policy form policy)) (λ to. fitting room to) a.2 in
    let c = not-refused key_too_large over b.1 in
    let d = not-refused output_too_small (ltb room (length b.0)) b.2 in
    record { policy-is = a.0; read = a.1; small = c.0; is = d.1 ∙ c.1 }

-- and the other way
is-given : (form : Form) (policy : List ℕ) (room : ℕ) (q : Policy) (to : List ℕ) → read_policy policy ≡ done q → any (too_large form) (records_of policy) ≡ false
    → moved_policy form policy ≡ to → length to ≤ room → move form policy room ≡ done to
is-given form policy room q to e small is h =
    when-read form policy room e ∙ rw (small, is, le-ltb room (length to) h)

module _ (form : Form) (policy : List ℕ) (below : AllBelow 256 policy) {room : ℕ} {to : List ℕ} (one : Done form policy room to) where
  unfolded : Moving form one.policy-is max_records [] policy
  unfolding read_policy records_of large
  unfolded = moving form max_records [] policy below one.read one.small

  pub reads-again : read_policy to ≡ done one.policy-is
  unfolding read_policy moved_policy records_of rest
  reads-again = ap read_policy one.is ∙ unfolded.reads

  pub its-records : records_of to ≡ map (moved form) (records_of policy)
  unfolding moved_policy records_of rest
  its-records = ap records_of one.is ∙ unfolded.each

  pub all-fine : Each Fine (records_of policy)
  unfolding read_policy records_of
  all-fine = (split max_records [] policy below one.read).fine

  pub all-bytes : in_order (records_of policy) ≡ policy
  unfolding read_policy records_of
  all-bytes = (split max_records [] policy below one.read).joined

pub same-policy : SamePolicy
same-policy form policy below room to e =
    let one = is-done form policy room to e in
    reads-again form policy below one ∙ sym one.read

none_left : (form : Form) (rs : List (List ℕ)) → any (moves form) (map (moved form) rs) ≡ false
unfolding any
none_left form [] = refl
none_left form (r ∷ rs) = rw (moved-moves form r, none_left form rs)

pub all_moved : AllMoved
all_moved form policy below room to e =
    ap (any (moves form)) (its-records form policy below (is-done form policy room to e)) ∙ none_left form (records_of policy)

-- ---- there and back

records-back : (rs : List (List ℕ)) → Each Fine rs → any (moves Old) rs ≡ false → map (moved Old) (map (moved New) rs) ≡ rs
unfolding any Each
records-back [] fine old = refl
records-back (r ∷ rs) fine old =
    let both = or-none (moves Old r) (any (moves Old) rs) old in
    rw (record-back r fine.0 both.0, records-back rs fine.1 both.1)

records-fit : (rs : List (List ℕ)) → Each Fine rs → any (moves Old) rs ≡ false → any (too_large Old) (map (moved New) rs) ≡ false
unfolding any Each
records-fit [] fine old = refl
records-fit (r ∷ rs) fine old =
    let both = or-none (moves Old r) (any (moves Old) rs) old in
    rw (new-fits-old r fine.0 both.0, records-fit rs fine.1 both.1)

records-again : (rs : List (List ℕ)) → Each Fine rs → any (too_large Old) rs ≡ false → map (moved New) (map (moved Old) rs) ≡ map (moved New) rs
unfolding any Each
records-again [] fine small = refl
records-again (r ∷ rs) fine small =
    let both = or-none (too_large Old r) (any (too_large Old) rs) small in
    rw (record-again r fine.0 both.0, records-again rs fine.1 both.1)

pub old-new-old : OldNewOld
unfolding moved_policy
old-new-old policy below old room to e room' h =
    let one = is-done New policy room to e in
    let fine = all-fine New policy below one in
    let records = its-records New policy below one in
    is-given Old to room' one.policy-is policy (reads-again New policy below one)
    (ap (any (too_large Old)) records ∙ records-fit (records_of policy) fine old)
    (ap (λ (rs : List (List ℕ)). in_order (map (moved Old) rs)) records ∙ ap in_order (records-back (records_of policy) fine old) ∙ all-bytes New policy below one)
    h

pub new-old-new : NewOldNew
unfolding moved_policy
new-old-new policy below room to e room' h =
    let one = is-done Old policy room to e in
    let fine = all-fine Old policy below one in
    let records = its-records Old policy below one in
    is-given New to room' one.policy-is (moved_policy New policy) (reads-again Old policy below one)
    (all-fit-new (records_of to))
    (ap (λ (rs : List (List ℕ)). in_order (map (moved New) rs)) records ∙ ap in_order (records-again (records_of policy) fine one.small))
    h
