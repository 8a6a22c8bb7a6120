-- The figures of each fragment, from src/miniscript/types/extra_props.rs, in its order: the fields that cost, local validity and
-- free-verify read, and the two sizes, which decide ties in a threshold's sorts. Assumes nothing: these are definitions.
use Rattle.std.specs.Prelude.{Bool, true, false, not, cond, ℕ, ◌+◌, ◌*◌, ◌-◌, leb, ltb, Option, None, Some}
use Rattle.contexts.specs.declared.Context.{Context}
use Rattle.contexts.specs.declared.Context.TheVariants.{Segwitv0, Tap}
use Rattle.figures.specs.declared.SatData.{SatData}
use Rattle.figures.specs.declared.ExtData.{ExtData}

abbrev pub max : ℕ → ℕ → ℕ
max a b = cond (leb a b) b a

-- 1 for true, 0 for false
abbrev pub num : Bool → ℕ
num true = 1
num false = 0

-- witness size, witness count, script-sig size, stack in execution, operations executed
abbrev pub sat_data : ℕ → ℕ → ℕ → ℕ → ℕ → SatData
sat_data size count sig stack ops =
    record {
      max_witness_stack_size = size;
      max_witness_stack_count = count;
      max_script_sig_size = sig;
      max_exec_stack_count = stack;
      max_exec_op_count = ops;
    }

-- script bytes, free-verify, static operations, satisfaction, dissatisfaction, height
abbrev pub ext : ℕ → Bool → ℕ → Option SatData → Option SatData → ℕ → ExtData
ext cost free ops sat dissat height =
    record {
      pk_cost = cost;
      has_free_verify = free;
      static_ops = ops;
      sat_data = sat;
      dissat_data = dissat;
      tree_height = height;
    }

abbrev pub fieldwise_max : SatData → SatData → SatData
fieldwise_max x y =
    sat_data (max x.max_witness_stack_size y.max_witness_stack_size)
    (max x.max_witness_stack_count y.max_witness_stack_count)
    (max x.max_script_sig_size y.max_script_sig_size)
    (max x.max_exec_stack_count y.max_exec_stack_count)
    (max x.max_exec_op_count y.max_exec_op_count)

abbrev pub fieldwise_max_opt : Option SatData → Option SatData → Option SatData
fieldwise_max_opt None y = y
fieldwise_max_opt (Some x) None = Some x
fieldwise_max_opt (Some x) (Some y) = Some (fieldwise_max x y)

abbrev pub map_sat : (SatData → SatData) → Option SatData → Option SatData
map_sat f None = None
map_sat f (Some x) = Some (f x)

-- one case after another, where the first leaves `kept` elements below the second
abbrev pub concat : ℕ → SatData → SatData → SatData
concat kept l r =
    sat_data (l.max_witness_stack_size + r.max_witness_stack_size)
    (l.max_witness_stack_count + r.max_witness_stack_count)
    (l.max_script_sig_size + r.max_script_sig_size)
    (max l.max_exec_stack_count (kept + r.max_exec_stack_count))
    (l.max_exec_op_count + r.max_exec_op_count)

abbrev pub sat_concat : ℕ → Option SatData → Option SatData → Option SatData
sat_concat kept None r = None
sat_concat kept (Some l) None = None
sat_concat kept (Some l) (Some r) = Some (concat kept l r)

-- how many bytes push a number
abbrev pub script_num_size : ℕ → ℕ
script_num_size n =
    cond (leb n 16) 1
    (cond (ltb n 0x80) 2 (cond (ltb n 0x8000) 3 (cond (ltb n 0x80_0000) 4 (cond (ltb n 0x8000_0000) 5 6))))

unfoldable pub false_ext : ExtData
false_ext = ext 1 false 0 None (Some (sat_data 0 0 0 1 0)) 0

unfoldable pub true_ext : ExtData
true_ext = ext 1 false 0 (Some (sat_data 0 0 0 1 0)) None 0

abbrev pub key_bytes : Context → ℕ
key_bytes Segwitv0 = 34
key_bytes Tap = 33

abbrev pub max_sig_bytes : Context → ℕ
max_sig_bytes Segwitv0 = 73
max_sig_bytes Tap = 66

unfoldable pub pk_k : Context → ExtData
pk_k c = ext (key_bytes c) false 0 (Some (sat_data (max_sig_bytes c) 1 (max_sig_bytes c) 1 0)) (Some (sat_data 1 1 1 1 0)) 0

unfoldable pub pk_h : Context → ExtData
pk_h c =
    ext 24 false 3 (Some (sat_data (key_bytes c + max_sig_bytes c) 2 (key_bytes c + max_sig_bytes c) 2 0))
    (Some (sat_data (key_bytes c + 1) 2 (key_bytes c + 1) 2 0)) 0

-- the bytes that push k and n
abbrev pub num_cost : ℕ → ℕ → ℕ
num_cost k n = cond (ltb 16 k) (cond (ltb 16 n) 4 3) (cond (ltb 16 n) 3 2)

unfoldable pub multi : ℕ → ℕ → ExtData
multi k n =
    ext (num_cost k n + 34 * n + 1) true 1 (Some (sat_data (1 + 73 * k) (k + 1) (1 + 73 * k) n n))
    (Some (sat_data (1 + k) (k + 1) (1 + k) n n)) 0

unfoldable pub multi_a : ℕ → ℕ → ExtData
multi_a k n =
    ext (num_cost k n + 33 * n + (n - 1) + 1) true 0 (Some (sat_data (n - k + 66 * k) n 0 2 0)) (Some (sat_data n n 0 2 0)) 0

-- a hash, of which the push has so many bytes
abbrev pub hash : ℕ → ExtData
hash push = ext (push + 6) true 4 (Some (sat_data 33 1 33 2 0)) (Some (sat_data 33 2 33 2 0)) 0

unfoldable pub sha256 : ExtData
sha256 = hash 33

unfoldable pub hash256 : ExtData
hash256 = hash 33

unfoldable pub ripemd160 : ExtData
ripemd160 = hash 21

unfoldable pub hash160 : ExtData
hash160 = hash 21

abbrev pub lock : ℕ → ExtData
lock t = ext (script_num_size t + 1) false 1 (Some (sat_data 0 0 0 1 0)) None 0

unfoldable pub after : ℕ → ExtData
after t = lock t

unfoldable pub older : ℕ → ExtData
older t = lock t

unfoldable pub cast_alt : ExtData → ExtData
cast_alt x = ext (x.pk_cost + 2) false (2 + x.static_ops) x.sat_data x.dissat_data (x.tree_height + 1)

unfoldable pub cast_swap : ExtData → ExtData
cast_swap x = ext (x.pk_cost + 1) x.has_free_verify (1 + x.static_ops) x.sat_data x.dissat_data (x.tree_height + 1)

unfoldable pub cast_check : ExtData → ExtData
cast_check x = ext (x.pk_cost + 1) true (1 + x.static_ops) x.sat_data x.dissat_data (x.tree_height + 1)

abbrev pub dup_if : SatData → SatData
dup_if d =
    sat_data (d.max_witness_stack_size + 1) (d.max_witness_stack_count + 2) (d.max_script_sig_size + 1)
    (max 1 d.max_exec_stack_count) d.max_exec_op_count

-- one element, empty, to dissatisfy
abbrev pub one_element : Option SatData
one_element = Some (sat_data 1 1 1 1 0)

unfoldable pub cast_dupif : ExtData → ExtData
cast_dupif x =
    ext (x.pk_cost + 3) false (3 + x.static_ops) (map_sat dup_if x.sat_data) one_element (x.tree_height + 1)

unfoldable pub cast_verify : ExtData → ExtData
cast_verify x =
    ext (x.pk_cost + num (not x.has_free_verify)) false (num (not x.has_free_verify) + x.static_ops)
    x.sat_data None (x.tree_height + 1)

unfoldable pub cast_nonzero : ExtData → ExtData
cast_nonzero x = ext (x.pk_cost + 4) false (4 + x.static_ops) x.sat_data one_element (x.tree_height + 1)

unfoldable pub cast_zeronotequal : ExtData → ExtData
cast_zeronotequal x = ext (x.pk_cost + 1) false (1 + x.static_ops) x.sat_data x.dissat_data (x.tree_height + 1)

-- the height over two fragments of these heights
abbrev pub over : ℕ → ℕ → ℕ
over l r = 1 + max l r

unfoldable pub and_b : ExtData → ExtData → ExtData
and_b l r =
    ext (l.pk_cost + r.pk_cost + 1) false (1 + l.static_ops + r.static_ops)
    (sat_concat 1 l.sat_data r.sat_data) (sat_concat 1 l.dissat_data r.dissat_data) (over l.tree_height r.tree_height)

unfoldable pub and_v : ExtData → ExtData → ExtData
and_v l r =
    ext (l.pk_cost + r.pk_cost) r.has_free_verify (l.static_ops + r.static_ops)
    (sat_concat 0 l.sat_data r.sat_data) None (over l.tree_height r.tree_height)

unfoldable pub or_b : ExtData → ExtData → ExtData
or_b l r =
    ext (l.pk_cost + r.pk_cost + 1) false (1 + l.static_ops + r.static_ops)
    (fieldwise_max_opt (sat_concat 1 l.sat_data r.dissat_data) (sat_concat 1 l.dissat_data r.sat_data))
    (sat_concat 1 l.dissat_data r.dissat_data) (over l.tree_height r.tree_height)

unfoldable pub or_d : ExtData → ExtData → ExtData
or_d l r =
    ext (l.pk_cost + r.pk_cost + 3) false (3 + l.static_ops + r.static_ops)
    (fieldwise_max_opt l.sat_data (sat_concat 0 l.dissat_data r.sat_data))
    (sat_concat 0 l.dissat_data r.dissat_data) (over l.tree_height r.tree_height)

unfoldable pub or_c : ExtData → ExtData → ExtData
or_c l r =
    ext (l.pk_cost + r.pk_cost + 2) false (2 + l.static_ops + r.static_ops)
    (fieldwise_max_opt l.sat_data (sat_concat 0 l.dissat_data r.sat_data)) None (over l.tree_height r.tree_height)

abbrev pub with0 : SatData → SatData
with0 d =
    sat_data (1 + d.max_witness_stack_size) (1 + d.max_witness_stack_count) (1 + d.max_script_sig_size)
    d.max_exec_stack_count d.max_exec_op_count

abbrev pub with1 : SatData → SatData
with1 d =
    sat_data (2 + d.max_witness_stack_size) (1 + d.max_witness_stack_count) (1 + d.max_script_sig_size)
    d.max_exec_stack_count d.max_exec_op_count

-- a 1 chooses the first, a 0 the second
abbrev pub either_branch : Option SatData → Option SatData → Option SatData
either_branch l r = fieldwise_max_opt (map_sat with1 l) (map_sat with0 r)

unfoldable pub or_i : ExtData → ExtData → ExtData
or_i l r =
    ext (l.pk_cost + r.pk_cost + 3) false (3 + l.static_ops + r.static_ops)
    (either_branch l.sat_data r.sat_data) (either_branch l.dissat_data r.dissat_data) (over l.tree_height r.tree_height)

unfoldable pub and_or : ExtData → ExtData → ExtData → ExtData
and_or a b c =
    ext (a.pk_cost + b.pk_cost + c.pk_cost + 3) false (3 + a.static_ops + b.static_ops + c.static_ops)
    (fieldwise_max_opt (sat_concat 0 a.sat_data b.sat_data) (sat_concat 0 a.dissat_data c.sat_data))
    (sat_concat 0 a.dissat_data c.dissat_data) (over a.tree_height (max b.tree_height c.tree_height))

-- the three casts that are pairs with a constant
unfoldable pub cast_true : ExtData → ExtData
cast_true x = and_v x true_ext

unfoldable pub cast_unlikely : ExtData → ExtData
cast_unlikely x = or_i x false_ext

unfoldable pub cast_likely : ExtData → ExtData
cast_likely x = or_i false_ext x
