-- An item has one list of tokens, one first fault and one end.
use Rattle.std.proofs.Common.{◌≡◌, ℕ, ◌+◌, List, ◌∷◌, refl, sym, ap, ◌∙◌, subst}
use Rattle.std.specs.Prelude.{slice_range}
use Rattle.mc_tokens.specs.Tokens.{Lexed, Tok, Fault}
use Rattle.mc_tokens.specs.Items.{Piece, Item, Faulty, Passes}
use Rattle.mc_tokens.specs.Items as I
use Rattle.mc_tokens.specs.declared.token.FaultKind.{FaultKind}
use Rattle.mc_tokens.specs.declared.token.FaultKind.TheVariants.{BadChar}
use Rattle.mc_tokens.specs.declared.token.Kind.{Kind}
use Rattle.mc_tokens.specs.declared.token.Kind.TheVariants.{Eof}

-- what an answer of the lexer is made of
abbrev kind_of : Lexed → Kind
kind_of (Tok e start stop) = e
kind_of (Fault f place) = Eof

abbrev start_of : Lexed → ℕ
start_of (Tok e start stop) = start
start_of (Fault f place) = 0

abbrev stop_of : Lexed → ℕ
stop_of (Tok e start stop) = stop
stop_of (Fault f place) = 0

abbrev fault_of : Lexed → FaultKind
fault_of (Tok e start stop) = BadChar
fault_of (Fault f place) = f

abbrev place_of : Lexed → ℕ
place_of (Tok e start stop) = 0
place_of (Fault f place) = place

-- what holds after a token holds after it by another name
after_same : (P : ℕ → Kind → Type 0) (e b : Kind) (start stop left right : ℕ) → Tok e start stop ≡ Tok b left right → P right b → P stop e
after_same P e b start stop left right same h =
    subst (λ (c : Kind). P stop c) (sym (ap kind_of same)) (subst (λ (n : ℕ). P n b) (sym (ap stop_of same)) h)

-- an item that has a list of tokens has no fault
pub Item-Faulty : {text : List ℕ} {at last place : ℕ} {k end : Kind} {ps : List Piece} {f : FaultKind} → Item text at k ps end last → Faulty text at k f place → ⊥
Item-Faulty (I.over e t) (I.here d) = cc
Item-Faulty (I.over e t) (I.later d u r) = cc
Item-Faulty (I.next e t i) (I.here d) = cc
Item-Faulty {text = text} {place = place} {f = f} (I.next {start = s} {stop = n} {e = a} e t i) (I.later {start = v} {stop = m} {e = b} d u r) =
    Item-Faulty i (after_same (λ n c. Faulty text n c f place) a b s n v m (sym e ∙ d) r)

-- one list of tokens, one token that ends it, and one place after that
pub Item-unique : {text : List ℕ} {at last stop : ℕ} {k end other : Kind} {ps qs : List Piece} → Item text at k ps end last → Item text at k qs other stop → (ps ≡ qs) × (last ≡ stop) × (end ≡ other)
Item-unique (I.over e t) (I.over d u) = (refl, ap stop_of (sym e ∙ d), ap kind_of (sym e ∙ d))
Item-unique (I.over {start = s} {stop = n} {e = a} e t) (I.next {start = v} {stop = m} {e = b} d u j) = let same : a ≡ b = ap kind_of (sym e ∙ d) in cc
Item-unique (I.next {start = s} {stop = n} {e = a} e t i) (I.over {start = v} {stop = m} {e = b} d u) = let same : a ≡ b = ap kind_of (sym e ∙ d) in cc
Item-unique {text = text} {stop = stop} {other = other} (I.next {start = s} {stop = n} {e = a} {ps = ps} e t i) (I.next {start = v} {stop = m} {e = b} {ps = qs} d u j) =
    let same = sym e ∙ d in
    let rest = Item-unique i (after_same (λ n c. Item text n c qs other stop) a b s n v m same j) in
    ((λ w. record { kind = kind_of (same w); bytes = slice_range text (start_of (same w)) (stop_of (same w)); place = start_of (same w) } ∷ rest.0 w), rest.1, rest.2)

-- one first fault, in one place
pub Faulty-unique : {text : List ℕ} {at place there : ℕ} {k : Kind} {f g : FaultKind} → Faulty text at k f place → Faulty text at k g there → (f ≡ g) × (place ≡ there)
Faulty-unique (I.here e) (I.here d) = (ap fault_of (sym e ∙ d), ap place_of (sym e ∙ d))
Faulty-unique (I.here e) (I.later d u r) = cc
Faulty-unique (I.later e t q) (I.here d) = cc
Faulty-unique {text = text} {there = there} {g = g} (I.later {start = s} {stop = n} {e = a} e t q) (I.later {start = v} {stop = m} {e = b} d u r) =
    Faulty-unique q (after_same (λ n c. Faulty text n c g there) a b s n v m (sym e ∙ d) r)

-- one place after the item
pub Passes-unique : {text : List ℕ} {at last end : ℕ} {k : Kind} → Passes text at k last → Passes text at k end → last ≡ end
Passes-unique (I.over e t) (I.over d u) = ap stop_of (sym e ∙ d)
Passes-unique (I.over {start = s} {stop = n} {e = a} e t) (I.next {start = v} {stop = m} {e = b} d u j) = let same : a ≡ b = ap kind_of (sym e ∙ d) in cc
Passes-unique (I.over e t) (I.past d j) = cc
Passes-unique (I.next {start = s} {stop = n} {e = a} e t i) (I.over {start = v} {stop = m} {e = b} d u) = let same : a ≡ b = ap kind_of (sym e ∙ d) in cc
Passes-unique {text = text} {end = end} (I.next {start = s} {stop = n} {e = a} e t i) (I.next {start = v} {stop = m} {e = b} d u j) =
    Passes-unique i (after_same (λ n c. Passes text n c end) a b s n v m (sym e ∙ d) j)
Passes-unique (I.next e t i) (I.past d j) = cc
Passes-unique (I.past e i) (I.over d u) = cc
Passes-unique (I.past e i) (I.next d u j) = cc
Passes-unique {text = text} {end = end} (I.past {place = p} {f = f} e i) (I.past {place = q} {f = g} d j) =
    Passes-unique i (subst (λ (n : ℕ). Passes text (n + 1) Eof end) (sym (ap place_of (sym e ∙ d))) j)

-- the end of an item without faults
pub Passes-Item : {text : List ℕ} {at last : ℕ} {k end : Kind} {ps : List Piece} → Item text at k ps end last → Passes text at k last
Passes-Item (I.over e t) = I.over e t
Passes-Item (I.next e t i) = I.next e t (Passes-Item i)
