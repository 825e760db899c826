-- How the text of a value falls into what is written from its front.
use Rattle.std.proofs.Common.{◌≡◌, ℕ, ◌<◌, List, [], ◌∷◌, ◌++◌, Bool, true, false, refl, ap, sym, ◌∙◌, nat_eq, append_assoc, map, subst, if◌then◌else◌}
use Rattle.std.proofs.lemmas.List.{append-nil, map-append}
use Rattle.mc_program.specs.Values.{plain_value}
use Rattle.mc_program.specs.declared.value.Value.{Value, Con}
use Rattle.mc_program.proofs.Views.{plain_value-Con}
use Rattle.std.specs.Prelude.{codes}
use Rattle.std.specs.Cmp.Lexicographic.{pointwise}
use Rattle.mc_program.specs.Values.{Val, con, vals}
use Rattle.mc_program.specs.Printed.{printed, printed_tail, printed_tails, printed_more, name_at, name_text, is_cell, SymbolsBelow, AllSymbolsBelow}
use Rattle.mc_print.specs.declared.value.Place.{Place}
use Rattle.mc_print.specs.declared.value.Place.TheVariants.{Whole, Tail}
use Rattle.mc_print.specs.code.Places.{lead, at_place, opening, fronts_text, last_place, closing, is_list_front}

-- the arguments after the first end with the last one
more_fronts : (names : List (List ℕ)) (x : Val) (ws : List Val) (w : Val) → printed names x ++ printed_more names (vals (ws ++ (w ∷ []))) ≡ fronts_text names false (x ∷ ws) ++ printed names w
more_fronts names x [] w =
    ap (λ l. printed names x ++ (codes ", " ++ l)) (append-nil (printed names w)) ∙ sym (append_assoc (printed names x) (codes ", ") (printed names w))
more_fronts names x (y ∷ ws) w =
    ap (λ l. printed names x ++ (codes ", " ++ l)) (more_fronts names y ws w)
    ∙ sym (append_assoc (printed names x) (codes ", " ++ fronts_text names false (y ∷ ws)) (printed names w))

-- a constructor that is written with brackets
bracketed : (names : List (List ℕ)) (name : List ℕ) (x : Val) (ws : List Val) (w : Val) → name_text name ++ (codes "(" ++ (printed names x ++ (printed_more names (vals (ws ++ (w ∷ []))) ++ codes ")"))) ≡ (name_text name ++ codes "(") ++ (fronts_text names false (x ∷ ws) ++ (printed names w ++ codes ")"))
bracketed names name x ws w =
    let X = printed names x in
    let M = printed_more names (vals (ws ++ (w ∷ []))) in
    let F = fronts_text names false (x ∷ ws) in
    let W = printed names w in
    let inner : X ++ (M ++ codes ")") ≡ F ++ (W ++ codes ")") =
    sym (append_assoc X M (codes ")")) ∙ ap (λ l. l ++ codes ")") (more_fronts names x ws w) ∙ append_assoc F W (codes ")") in
    ap (λ l. name_text name ++ (codes "(" ++ l)) inner ∙ sym (append_assoc (name_text name) (codes "(") (F ++ (W ++ codes ")")))

-- two or more arguments before the last one are no list's
no_cell : (name : List ℕ) (y : Val) (ws : List Val) (w : Val) → is_cell name (vals ((y ∷ ws) ++ (w ∷ []))) ≡ false
no_cell name y [] w = refl
no_cell name y (z ∷ ws) w = refl

-- what is to be written for a constructor over these arguments and a last one
abbrev pub parts : List (List ℕ) → Place → List ℕ → Bool → List Val → Val → List ℕ
parts names place name is_list ws w = opening place name is_list ++ (fronts_text names is_list ws ++ (at_place names (last_place is_list) w ++ closing place is_list))

bracketed_at : (names : List (List ℕ)) (place : Place) (name : List ℕ) (x : Val) (ws : List Val) (w : Val)
    → lead place ++ (name_text name ++ (codes "(" ++ (printed names x ++ (printed_more names (vals (ws ++ (w ∷ []))) ++ codes ")")))) ≡ parts names place name false (x ∷ ws) w
bracketed_at names Whole name x ws w = bracketed names name x ws w
bracketed_at names Tail name x ws w =
    ap (λ l. codes " | " ++ l) (bracketed names name x ws w)
    ∙ sym (append_assoc (codes " | ") (name_text name ++ codes "(") (fronts_text names false (x ∷ ws) ++ (printed names w ++ codes ")")))

alone : (names : List (List ℕ)) (place : Place) (s : ℕ) (w : Val) → at_place names place (con s (vals (w ∷ []))) ≡ parts names place (name_at names s) false [] w
alone names Whole s w = sym (append_assoc (name_text (name_at names s)) (codes "(") (printed names w ++ codes ")"))
alone names Tail s w =
    ap (λ l. codes " | " ++ l) (sym (append_assoc (name_text (name_at names s)) (codes "(") (printed names w ++ codes ")")))
    ∙ sym (append_assoc (codes " | ") (name_text (name_at names s) ++ codes "(") (printed names w ++ codes ")"))

-- an element of a list and the list's tail
element : (names : List (List ℕ)) (x w : Val) (after : List ℕ) → printed names x ++ (printed_tail names w ++ after) ≡ (printed names x ++ ([] ++ [])) ++ (printed_tail names w ++ after)
element names x w after = ap (λ l. l ++ (printed_tail names w ++ after)) (sym (append-nil (printed names x)))

pair : (names : List (List ℕ)) (place : Place) (name : List ℕ) (x w : Val) (is_list : Bool)
    → (if is_list then opening place name true ++ (printed names x ++ (printed_tail names w ++ closing place true)) else lead place ++ (name_text name ++ (codes "(" ++ (printed names x ++ (printed_more names (vals (w ∷ [])) ++ codes ")")))))
    ≡ parts names place name is_list (x ∷ []) w
pair names place name x w true = ap (λ l. opening place name true ++ l) (element names x w (closing place true))
pair names place name x w false = bracketed_at names place name x [] w

-- a constructor is written from its front
pub at_place-con : (names : List (List ℕ)) (place : Place) (s : ℕ) (ws : List Val) (w : Val)
    → at_place names place (con s (vals (ws ++ (w ∷ [])))) ≡ parts names place (name_at names s) (is_list_front (name_at names s) ws) ws w
at_place-con names place s [] w = alone names place s w
at_place-con names Whole s (x ∷ []) w = pair names Whole (name_at names s) x w (pointwise nat_eq (name_at names s) (codes "[|]"))
at_place-con names Tail s (x ∷ []) w =
    ap (λ l. if pointwise nat_eq (name_at names s) (codes "[|]") then codes ", " ++ (printed names x ++ l) else codes " | " ++ (name_text (name_at names s) ++ (codes "(" ++ (printed names x ++ (printed_more names (vals (w ∷ [])) ++ codes ")"))))) (sym (append-nil (printed_tail names w)))
    ∙ pair names Tail (name_at names s) x w (pointwise nat_eq (name_at names s) (codes "[|]"))
at_place-con names Whole s (x ∷ y ∷ ws) w =
    let name = name_at names s in
    let rest = vals ((y ∷ ws) ++ (w ∷ [])) in
    ap (λ b. if b then codes "[" ++ (printed names x ++ (printed_tails names rest ++ codes "]")) else name_text name ++ (codes "(" ++ (printed names x ++ (printed_more names rest ++ codes ")")))) (no_cell name y ws w)
    ∙ bracketed_at names Whole name x (y ∷ ws) w
at_place-con names Tail s (x ∷ y ∷ ws) w =
    let name = name_at names s in
    let rest = vals ((y ∷ ws) ++ (w ∷ [])) in
    ap (λ b. if b then codes ", " ++ (printed names x ++ printed_tails names rest) else codes " | " ++ (name_text name ++ (codes "(" ++ (printed names x ++ (printed_more names rest ++ codes ")"))))) (no_cell name y ws w)
    ∙ bracketed_at names Tail name x (y ∷ ws) w

-- the symbols of the parts
pub symbols_fronts : (n : ℕ) (ws : List Val) (w : Val) → AllSymbolsBelow n (vals (ws ++ (w ∷ []))) → AllSymbolsBelow n (vals ws)
symbols_fronts n [] w h = tt
symbols_fronts n (x ∷ ws) w h = (h.0, symbols_fronts n ws w h.1)

pub symbols_last : (n : ℕ) (ws : List Val) (w : Val) → AllSymbolsBelow n (vals (ws ++ (w ∷ []))) → SymbolsBelow n w
symbols_last n [] w h = h.0
symbols_last n (x ∷ ws) w h = symbols_last n ws w h.1

-- the plain view of a value that is split
pub plain_split : (v : Value) (s : ℕ) (front : List Value) (last : Value) → v ≡ Con s (front ++ (last ∷ [])) → plain_value v ≡ con s (vals (map plain_value front ++ (plain_value last ∷ [])))
plain_split v s front last e = ap plain_value e ∙ plain_value-Con s (front ++ (last ∷ [])) ∙ ap (λ l. con s (vals l)) (map-append plain_value front (last ∷ []))

pub named_parts : (n : ℕ) (v : Value) (s : ℕ) (front : List Value) (last : Value) → v ≡ Con s (front ++ (last ∷ [])) → SymbolsBelow n (plain_value v) → (s < n) × AllSymbolsBelow n (vals (map plain_value front)) × SymbolsBelow n (plain_value last)
named_parts n v s front last e h =
    let all = subst (SymbolsBelow n) (plain_split v s front last e) h in
    (all.0, symbols_fronts n (map plain_value front) (plain_value last) all.1, symbols_last n (map plain_value front) (plain_value last) all.1)
