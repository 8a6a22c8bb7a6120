-- The definition of compile gives the answers of the Rust: computed.
use mathlib.Core.Bool.{Bool, true, false, ◌&&◌}
use mathlib.Core.List.{List, [], ◌∷◌, ◌++◌}
use mathlib.Core.Path.{◌≡◌, refl}
use Rattle.words.specs.Bytes.{bytes_of, little, le_at}
use Rattle.records.specs.Numbers.{u16s, numbers_at}
use Rattle.records.specs.Shapes.{shape_of, look_up}
use Rattle.records.specs.Payloads.{width, payload_of}
use Rattle.records.specs.RecordForm as form
use Rattle.policies.specs.Policy as policies
use Rattle.policies.specs.Policy.{depth, deepest, from_list}
use Rattle.policies.specs.Forms.{made, kind_of, number_of, k_of, left_weight_of, right_weight_of, children_of}
use Rattle.policies.specs.Reading.{without, read_whole, read_record, root_of, finish, read_from, read_policy}
use Rattle.figures.specs.Rules as ext
use Rattle.figures.specs.Validity.{from_ast, check_global_validity, check_local_validity}
use Rattle.thresholds.specs.Threshold.{threshold, satisfied, worst, together, try_fold, sort_by, insert_by}
use Rattle.costs.specs.Rules as cost
use Rattle.costs.specs.Cost1d.{total1d, cost1d}
use Rattle.contexts.specs.Lists as lists
use Rattle.trees.specs.Fragment.{to_list}
use lib.Ieee.{add, sub, mul, div, lt, eq, le, of_bits, to_bits, of_int}
use Rattle.definition.specs.Candidates.{fragments, thresh_of}
use Rattle.definition.specs.Tables.{enter}
use Rattle.definition.specs.SamePolicy.{same, same_all}
use Rattle.definition.specs.Refusals.{then, lookup}
use Rattle.definition.specs.Insertion.{any, filter, insert, cast_all, closure, insert_closure}
use Rattle.definition.specs.Search.{for_each, casts_of, wrapped, cheapest, remembering, searching, and_body, and_ors, four_of, or_body}
use Rattle.definition.specs.Search.{best_of, bests, most_gaining, others_as_w, arranged, keys_of, fold_ands, thresh_body, searcher, searchers}
use Rattle.writing.specs.Writing.{in_row, node_of, nodes_of, count, counts, owns, written, written_all}
use Rattle.definition.specs.Compile.{best_compilation, compile_policy, compile}
use Rattle.definition.specs.AnswersOfTheRust.{Line, right, hex_onto, same_bytes, all_right, few, desk, third, answers}

and_intro : (a b : Bool) → a ≡ true → b ≡ true → a && b ≡ true
and_intro true b p q = q
and_intro false b p q = p

and_left : (a b : Bool) → a && b ≡ true → a ≡ true
and_left true b p = refl
and_left false b p = p

and_right : (a b : Bool) → a && b ≡ true → b ≡ true
and_right true b p = p
and_right false true p = refl
and_right false false p = p

-- two lists that are right are right as one
both_right : (xs ys : List Line) → all_right xs ≡ true → all_right ys ≡ true → all_right (xs ++ ys) ≡ true
unfolding all_right
both_right [] ys p q = q
both_right (x ∷ xs) ys p q = and_intro (right x) (all_right (xs ++ ys)) (and_left (right x) (all_right xs) p) (both_right xs ys (and_right (right x) (all_right xs) p) q)

right-few : all_right few ≡ true
unfolding all_right few hex_onto same_bytes compile compile_policy best_compilation
    little le_at bytes_of u16s numbers_at shape_of look_up form.kind_of width payload_of made from_list without read_whole read_record root_of finish read_from read_policy depth deepest
    searcher searchers searching remembering lookup then for_each casts_of wrapped cheapest
    same same_all kind_of number_of k_of left_weight_of right_weight_of children_of policies.to_list
    insert_closure closure cast_all insert any filter enter total1d cost1d in_row to_list node_of nodes_of count counts owns written written_all
    check_local_validity check_global_validity from_ast ext.false_ext ext.true_ext ext.pk_k ext.pk_h ext.multi ext.multi_a
    ext.sha256 ext.hash256 ext.ripemd160 ext.hash160 ext.after ext.older ext.cast_alt ext.cast_swap ext.cast_check
    ext.cast_dupif ext.cast_verify ext.cast_nonzero ext.cast_zeronotequal ext.cast_true ext.cast_unlikely ext.cast_likely
    ext.and_b ext.and_v ext.or_b ext.or_c ext.or_d ext.or_i ext.and_or
    cost.or_b cost.or_c cost.or_d cost.or_i cost.and_or cost.threshold cost.plus_all
    threshold satisfied worst together try_fold sort_by insert_by lists.all lists.sum fragments thresh_of
    and_body and_ors four_of or_body best_of bests most_gaining others_as_w arranged keys_of fold_ands thresh_body
    add sub mul div lt eq le of_bits to_bits of_int
right-few = refl

right-desk : all_right desk ≡ true
unfolding all_right desk hex_onto same_bytes compile compile_policy best_compilation
    little le_at bytes_of u16s numbers_at shape_of look_up form.kind_of width payload_of made from_list without read_whole read_record root_of finish read_from read_policy depth deepest
    searcher searchers searching remembering lookup then for_each casts_of wrapped cheapest
    same same_all kind_of number_of k_of left_weight_of right_weight_of children_of policies.to_list
    insert_closure closure cast_all insert any filter enter total1d cost1d in_row to_list node_of nodes_of count counts owns written written_all
    check_local_validity check_global_validity from_ast ext.false_ext ext.true_ext ext.pk_k ext.pk_h ext.multi ext.multi_a
    ext.sha256 ext.hash256 ext.ripemd160 ext.hash160 ext.after ext.older ext.cast_alt ext.cast_swap ext.cast_check
    ext.cast_dupif ext.cast_verify ext.cast_nonzero ext.cast_zeronotequal ext.cast_true ext.cast_unlikely ext.cast_likely
    ext.and_b ext.and_v ext.or_b ext.or_c ext.or_d ext.or_i ext.and_or
    cost.or_b cost.or_c cost.or_d cost.or_i cost.and_or cost.threshold cost.plus_all
    threshold satisfied worst together try_fold sort_by insert_by lists.all lists.sum fragments thresh_of
    and_body and_ors four_of or_body best_of bests most_gaining others_as_w arranged keys_of fold_ands thresh_body
    add sub mul div lt eq le of_bits to_bits of_int
right-desk = refl

right-third : all_right third ≡ true
unfolding all_right third hex_onto same_bytes compile compile_policy best_compilation
    little le_at bytes_of u16s numbers_at shape_of look_up form.kind_of width payload_of made from_list without read_whole read_record root_of finish read_from read_policy depth deepest
    searcher searchers searching remembering lookup then for_each casts_of wrapped cheapest
    same same_all kind_of number_of k_of left_weight_of right_weight_of children_of policies.to_list
    insert_closure closure cast_all insert any filter enter total1d cost1d in_row to_list node_of nodes_of count counts owns written written_all
    check_local_validity check_global_validity from_ast ext.false_ext ext.true_ext ext.pk_k ext.pk_h ext.multi ext.multi_a
    ext.sha256 ext.hash256 ext.ripemd160 ext.hash160 ext.after ext.older ext.cast_alt ext.cast_swap ext.cast_check
    ext.cast_dupif ext.cast_verify ext.cast_nonzero ext.cast_zeronotequal ext.cast_true ext.cast_unlikely ext.cast_likely
    ext.and_b ext.and_v ext.or_b ext.or_c ext.or_d ext.or_i ext.and_or
    cost.or_b cost.or_c cost.or_d cost.or_i cost.and_or cost.threshold cost.plus_all
    threshold satisfied worst together try_fold sort_by insert_by lists.all lists.sum fragments thresh_of
    and_body and_ors four_of or_body best_of bests most_gaining others_as_w arranged keys_of fold_ands thresh_body
    add sub mul div lt eq le of_bits to_bits of_int
right-third = refl

pub answers-given : all_right answers ≡ true
unfolding answers
answers-given = both_right few (desk ++ third) right-few (both_right desk third right-desk right-third)
