-- Tokens by their first bytes.
use Rattle.std.proofs.Common.{◌≡◌, ℕ, ◌+◌, ◌<◌, cond, List, length, get_or, drop, sym, ap, arith}
use Rattle.std.specs.Prelude.{nat_eq}
use Rattle.std.proofs.lemmas.List.{drop_all}
use Rattle.mc_tokens.specs.declared.token.FaultKind.{FaultKind}
use Rattle.mc_tokens.specs.Spots.{At, Faulty, Between, layout}
use Rattle.mc_tokens.specs.Tokens.{Tok, Fault, token, begun, first, token_from, lexed}
use Rattle.mc_tokens.specs.declared.token.Kind.{Kind}
use Rattle.mc_tokens.specs.declared.token.Kind.TheVariants.{Eof}
use Rattle.mc_tokens.proofs.CharLen.{drop-at}

pub at_end : (k : Kind) (start : ℕ) (text : List ℕ) → start ≡ length text → token k start (drop start text) ≡ Tok Eof start start
unfolding token
at_end k start text e = ap (token k start) (drop_all start text (omega arith))

pub token_is : (k : Kind) (start : ℕ) (text : List ℕ) → start < length text → token k start (drop start text) ≡ begun k start (get_or text start 0) (drop (start + 1) text) (first (get_or text start 0))
unfolding token
token_is k start text h = ap (token k start) (drop-at text start h)

-- the next token, where it begins in a place, and where there is a fault before it
pub from_start : (text : List ℕ) (from start : ℕ) (k : Kind) → layout Between from (drop from text) ≡ At start → token (cond (nat_eq start from) k Eof) start (drop start text) ≡ lexed text from k
unfolding lexed
from_start text from start k e = sym (ap (token_from text from k) e)

pub from_fault : (text : List ℕ) (from place : ℕ) (k : Kind) (kind : FaultKind) → layout Between from (drop from text) ≡ Faulty kind place → Fault kind place ≡ lexed text from k
unfolding lexed
from_fault text from place k kind e = sym (ap (token_from text from k) e)
