-- What is kept of a term while it is read. A term deeper than 256 leaves its line and its flags
-- alone, and 257 stands for every greater depth.
use Rattle.std.specs.Prelude.{ℕ, ◌+◌, ◌^◌, max, pos, nat_lt, nat_le, List, [], ◌∷◌, ◌++◌, Option, Some, None, if◌then◌else◌}
use Rattle.mc_term_data.specs.Plain as P
use Rattle.mc_term_data.specs.Plain.{PlainTerm, PlainNode, at, term_list}
use Rattle.mc_term_parser.specs.Tree.{or_else, minus}
use Rattle.mc_term_parser.specs.code.Machine.{Making}

pub record Seen : Type 0 where
  pub value : PlainTerm
  pub depth : ℕ
  pub large : Option ℕ

-- terms in a row
pub record SeenRow : Type 0 where
  pub values : List PlainTerm
  pub depth : ℕ
  pub large : Option ℕ

abbrev pub line_seen : PlainTerm → ℕ
line_seen (at n l) = l

abbrev pub node_seen : PlainTerm → PlainNode
node_seen (at n l) = n

unfoldable pub kept : ℕ → PlainNode → ℕ → Option ℕ → Seen
kept l n d large =
    if nat_le d 256 then record { value = at n l; depth = d; large = large }
    else record { value = at (P.Int (pos 0)) l; depth = 257; large = large }

unfoldable pub leaf : ℕ → PlainNode → Seen
leaf l n = record { value = at n l; depth = 1; large = None }

-- a number that 64 bits don't hold
unfoldable pub seen_large : ℕ → Seen
seen_large l = record { value = at (P.Int (pos 0)) l; depth = 1; large = Some l }

unfoldable pub seen_int : ℕ → ℕ → Seen
seen_int l n = if nat_lt n (2 ^ 63) then leaf l (P.Int (pos n)) else seen_large l

unfoldable pub seen_neg : ℕ → ℕ → Seen
seen_neg l n = if nat_le n (2 ^ 63) then leaf l (P.Int (minus n)) else seen_large l

abbrev pub seen_over : ℕ → PlainNode → SeenRow → Seen
seen_over l n ts = kept l n (1 + ts.depth) ts.large

unfoldable pub seen_app : ℕ → List (List ℕ) → SeenRow → Seen
seen_app l w ts = seen_over l (P.App w (term_list ts.values)) ts

unfoldable pub seen_items : ℕ → SeenRow → Seen
seen_items l ts = seen_over l (P.Items (term_list ts.values)) ts

unfoldable pub seen_tailed : ℕ → SeenRow → Seen → Seen
seen_tailed l ts t =
    kept l (P.Tailed (term_list ts.values) t.value) (1 + max ts.depth t.depth)
    (or_else ts.large t.large)

unfoldable pub seen_conj : ℕ → SeenRow → Seen
seen_conj l ts = seen_over l (P.Conj (term_list ts.values)) ts

unfoldable pub seen_disj : ℕ → SeenRow → Seen
seen_disj l ts = seen_over l (P.Disj (term_list ts.values)) ts

unfoldable pub seen_inside : ℕ → Seen → Seen
seen_inside l t = kept l (node_seen t.value) (1 + t.depth) t.large

unfoldable pub no_seen : SeenRow
no_seen = record { values = []; depth = 0; large = None }

unfoldable pub seen_then : SeenRow → Seen → SeenRow
seen_then ts t = record {
  values = ts.values ++ t.value ∷ [];
  depth = max ts.depth t.depth;
  large = or_else ts.large t.large;
}

-- how the reader makes what it keeps
abbrev pub seen_making : Making Seen SeenRow
seen_making = record {
  var = λ l w. leaf l (P.Var w);
  int = seen_int;
  neg = seen_neg;
  str = λ l s. leaf l (P.Str s);
  app = seen_app;
  items = seen_items;
  tailed = seen_tailed;
  conj = seen_conj;
  disj = seen_disj;
  inside = seen_inside;
  line = λ t. line_seen t.value;
  none = no_seen;
  more = seen_then;
}
