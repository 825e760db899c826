-- Numbers: their forms and their digits.
use Rattle.std.proofs.Common.{◌≡◌, ℕ, zero, suc, ◌+◌, ◌-◌, ◌*◌, ◌^◌, ◌<◌, ◌≤◌, Bool, true, false, cond, List, [], ◌∷◌, length, get_or, take, drop, refl, sym, ap, ap₂, ◌∙◌, subst, add-zero, arith, unwrap_or, lit<, lit≤}
use Rattle.std.specs.Prelude.{◌==◌, ◌&&◌, slice_range, Option, Some, None, is_some, IfSome}
use Rattle.std.specs.List.{prefix_len}
use Rattle.std.proofs.lemmas.List.{get_or-drop, drop-drop, length-take, get_or-take, length-drop}
use Rattle.std.proofs.lemmas.List.Sums.{prefix_len_passes}
use Rattle.std.proofs.lemmas.Bool.{eq-eqb, lt-ltb, le-ltb}
use Rattle.std.proofs.Math.Nat.{mul-le-mul_left}
use Rattle.mc_tokens.proofs.CharLen.{drop-at}
use Rattle.mc_tokens.specs.code.Seen.{TooLarge}
use Rattle.mc_tokens.specs.declared.token.FaultKind.TheVariants.{LeftOut, IntTooLarge}
use Rattle.mc_tokens.specs.declared.token.Kind.TheVariants.{Int}
use Rattle.mc_tokens.specs.Classes.{hex_value, is_digit_of}
use Rattle.mc_tokens.specs.Utf8.{at}
use Rattle.mc_tokens.specs.Tokens.{Tok, Fault, form, form_after_zero, starts_character, spelled, number, decimal, of_form, digits}
use Rattle.mc_tokens.specs.declared.begins.Form.TheVariants.{Based, Character, Decimal}
use Rattle.mc_base.proofs.Booleans.{right_true}

-- the byte in place k of what stands from start on
pub after : (start k : ℕ) (text : List ℕ) → get_or (drop start text) k 0 ≡ get_or text (start + k) 0
after start k text = get_or-drop start text k 0

pub form_zero : (start : ℕ) (text : List ℕ) → get_or text start 0 ≡ 48 → form (drop start text) ≡ form_after_zero (get_or text (start + 1) 0) (drop (start + 2) text)
form_zero start text e =
    let zero_here : get_or (drop start text) 0 0 ≡ 48 = after start 0 text ∙ ap (λ k. get_or text k 0) (add-zero start) ∙ e in
    ap (λ t. cond t (form_after_zero (at (drop start text) 1) (drop 2 (drop start text))) Decimal) (eq-eqb _ 48 zero_here)
    ∙ ap₂ form_after_zero (after start 1 text) (drop-drop 2 start text)

-- the value that an option holds
pub value_in : (o : Option ℕ) (v : ℕ) → is_some o ≡ true → IfSome o (λ d. (d ≡ v) × (d < 16)) → unwrap_or o 0 ≡ v
value_in (Some d) v e h = h.0
value_in None v e h = cc

-- the rest of a run, from a place in it
prefix_rest : (q : ℕ → Bool) (bs : List ℕ) (j : ℕ) → j ≤ prefix_len q bs → prefix_len q (drop j bs) + j ≡ prefix_len q bs
prefix_rest q bs zero h = add-zero (prefix_len q bs)
prefix_rest q [] (suc j) h = absurd (omega arith)
prefix_rest q (b ∷ bs) (suc j) h = go (q b) h (λ l. prefix_rest q bs j l)
  where
    go : (t : Bool) → suc j ≤ cond t (1 + prefix_len q bs) 0 → (j ≤ prefix_len q bs → prefix_len q (drop j bs) + j ≡ prefix_len q bs) → prefix_len q (drop j bs) + suc j ≡ cond t (1 + prefix_len q bs) 0
    go true l ih = let e = ih (omega arith) in omega arith
    go false l ih = absurd (omega arith)

pub later_run : (q : ℕ → Bool) (from k end : ℕ) (text : List ℕ) → from ≤ k → k ≤ end → end ≡ from + prefix_len q (drop from text) → end ≡ k + prefix_len q (drop k text)
later_run q from k end text a b e =
    let j : from + (k - from) ≡ k = omega arith in
    let rest = prefix_rest q (drop from text) (k - from) (omega arith) in
    let same : prefix_len q (drop (k - from) (drop from text)) ≡ prefix_len q (drop k text) = ap (prefix_len q) (drop-drop (k - from) from text ∙ ap (λ i. drop i text) j) in
    omega arith

-- the byte in place k of a part of the text
pub part_is : (from stop k : ℕ) (text : List ℕ) → k < stop - from → get_or (slice_range text from stop) k 0 ≡ get_or text (from + k) 0
part_is from stop k text h = get_or-take (stop - from) (drop from text) k 0 h ∙ get_or-drop from text k 0

-- each byte of a run is of its class
pub run_digits : (q : ℕ → Bool) (from stop : ℕ) (text : List ℕ) → stop ≡ from + prefix_len q (drop from text) → (k : ℕ) → k < length (slice_range text from stop) → q (get_or (slice_range text from stop) k 0) ≡ true
run_digits q from stop text e k h =
    let n = prefix_len q (drop from text) in
    let long : stop - from ≡ n = omega arith in
    let within : k < n = omega (arith, length-take {A = ℕ}) in
    ap q (ap (λ m. get_or (take m (drop from text)) k 0) long ∙ get_or-take n (drop from text) k 0 within) ∙ prefix_len_passes q (drop from text) k 0 within

-- and so is each byte of a later part
pub later_digits : (q : ℕ → Bool) (start from stop : ℕ) (text : List ℕ) → start ≤ from → stop ≤ length text → ((k : ℕ) → k < length (slice_range text start stop) → q (get_or (slice_range text start stop) k 0) ≡ true)
    → (k : ℕ) → k < length (slice_range text from stop) → q (get_or (slice_range text from stop) k 0) ≡ true
later_digits q start from stop text a b each k h =
    let inside : k < stop - from = omega (arith, length-take {A = ℕ}) in
    let place : start + (from - start + k) ≡ from + k = omega arith in
    let early : from - start + k < stop - start = omega arith in
    ap q (part_is from stop k text inside ∙ sym (ap (λ i. get_or text i 0) place) ∙ sym (part_is start stop (from - start + k) text early))
    ∙ each (from - start + k) (omega (arith, length-take {A = ℕ}, length-drop start text))

-- a part begins with its first byte
part-cons : (k stop : ℕ) (text : List ℕ) → k < stop → stop ≤ length text → slice_range text k stop ≡ get_or text k 0 ∷ slice_range text (k + 1) stop
part-cons k stop text a b =
    let count : stop - k ≡ suc (stop - (k + 1)) = omega arith in
    ap₂ take count (drop-at text k (omega arith))

-- more digits before them make no number smaller
spelled_mono : (base m n : ℕ) (ds : List ℕ) → m ≤ n → spelled base m ds ≤ spelled base n ds
spelled_mono base m n [] h = h
spelled_mono base m n (d ∷ ds) h = spelled_mono base (base * m + hex_value d) (base * n + hex_value d) ds (let more : base * m ≤ base * n = mul-le-mul_left base h in omega arith)

-- too large from a place, too large from each place before it
pub large_before : (text : List ℕ) (end j k : ℕ) → k + j < end → end ≤ length text → TooLarge text (k + j) end → TooLarge text k end
large_before text end zero k a b h = subst (λ (i : ℕ). TooLarge text i end) (add-zero k) h
large_before text end (suc j) k a b h =
    let same : k + suc j ≡ k + 1 + j = omega arith in
    let next : TooLarge text (k + 1) end = large_before text end j (k + 1) (omega arith) b (subst (λ (i : ℕ). TooLarge text i end) same h) in
    let first = part-cons k end text (omega arith) b in
    let grows = spelled_mono 10 0 (10 * 0 + hex_value (get_or text k 0)) (slice_range text (k + 1) end) (omega arith) in
    subst (λ (ds : List ℕ). 2 ^ 63 < spelled 10 0 ds) (sym first) (omega (arith, next, grows))

pub large_up_to : (text : List ℕ) (start last end : ℕ) → last < end → end ≤ length text → TooLarge text last end → (k : ℕ) → start ≤ k → k < last + 1 → TooLarge text k end
large_up_to text start last end a b h k c d =
    let e : k + (last - k) ≡ last = omega arith in
    large_before text end (last - k) k (omega arith) b (subst (λ (i : ℕ). TooLarge text i end) (sym e) h)

-- a decimal number, or a float
decimal_by : (start stop : ℕ) (text : List ℕ) → stop ≡ start + prefix_len (is_digit_of 10) (drop start text) → (t : Bool) → ((get_or text stop 0 == 46) && is_digit_of 10 (get_or text (stop + 1) 0)) ≡ t
    → decimal start (prefix_len (is_digit_of 10) (drop start text)) (drop start text) ≡ cond t (Fault LeftOut start) (number 10 start (start + prefix_len (is_digit_of 10) (drop start text)) (take (prefix_len (is_digit_of 10) (drop start text)) (drop start text)))
decimal_by start stop text e t f =
    let n = prefix_len (is_digit_of 10) (drop start text) in
    let next : start + (n + 1) ≡ stop + 1 = omega arith in
    ap (λ t. cond t (Fault LeftOut start) (number 10 start (start + n) (take n (drop start text))))
    ((λ i. ((after start n text ∙ ap (λ k. get_or text k 0) (sym e)) i == 46) && is_digit_of 10 ((after start (n + 1) text ∙ ap (λ k. get_or text k 0) next) i)) ∙ f)

pub decimal_float : (start stop : ℕ) (text : List ℕ) → stop ≡ start + prefix_len (is_digit_of 10) (drop start text) → ((get_or text stop 0 == 46) && is_digit_of 10 (get_or text (stop + 1) 0)) ≡ true → decimal start (prefix_len (is_digit_of 10) (drop start text)) (drop start text) ≡ Fault LeftOut start
decimal_float start stop text e f = decimal_by start stop text e true f

pub decimal_number : (start stop : ℕ) (text : List ℕ) → stop ≡ start + prefix_len (is_digit_of 10) (drop start text) → ((get_or text stop 0 == 46) && is_digit_of 10 (get_or text (stop + 1) 0)) ≡ false → decimal start (prefix_len (is_digit_of 10) (drop start text)) (drop start text) ≡ number 10 start stop (slice_range text start stop)
decimal_number start stop text e f =
    let n = prefix_len (is_digit_of 10) (drop start text) in
    let long : n ≡ stop - start = omega arith in
    decimal_by start stop text e false f ∙ (λ i. number 10 start (sym e i) (take (long i) (drop start text)))

-- the number of digits
pub number_large : (base start stop : ℕ) (ds : List ℕ) → 2 ^ 63 < spelled base 0 ds → number base start stop ds ≡ Fault IntTooLarge start
number_large base start stop ds h = ap (λ t. cond t (Fault IntTooLarge start) (Tok (Int (spelled base 0 ds)) start stop)) (lt-ltb (2 ^ 63) (spelled base 0 ds) h)

pub number_small : (base start stop v : ℕ) (ds : List ℕ) → v ≡ spelled base 0 ds → v ≤ 2 ^ 63 → number base start stop ds ≡ Tok (Int v) start stop
number_small base start stop v ds e h =
    ap (λ t. cond t (Fault IntTooLarge start) (Tok (Int (spelled base 0 ds)) start stop)) (le-ltb (2 ^ 63) (spelled base 0 ds) (omega arith)) ∙ ap (λ n. Tok (Int n) start stop) (sym e)

-- the forms
pub record IsBased (base : ℕ) (rest : List ℕ) : Type 0 where
  pub positive : 0 < base
  pub small : base ≤ 16
  pub digit : is_digit_of base (at rest 0) ≡ true

pub form-based : (bs : List ℕ) (base : ℕ) → Based base ≡ form bs → IsBased base (drop 2 bs)
form-based bs base e = go (at bs 0 == 48) ((at bs 1 == 120) && d 16) ((at bs 1 == 111) && d 8) ((at bs 1 == 98) && d 2) ((at bs 1 == 39) && starts_character rest) (right_true (at bs 1 == 120) (d 16)) (right_true (at bs 1 == 111) (d 8)) (right_true (at bs 1 == 98) (d 2)) e
  where
    rest : List ℕ
    rest = drop 2 bs

    d : ℕ → Bool
    d b = is_digit_of b (at rest 0)

    made : (b : ℕ) → 0 < b → b ≤ 16 → d b ≡ true → Based base ≡ Based b → IsBased base rest
    made b p q f e = let same : b ≡ base = cc in subst (λ (b : ℕ). IsBased b rest) same (record { positive = p; small = q; digit = f })

    go : (z h o b c : Bool) → (h ≡ true → d 16 ≡ true) → (o ≡ true → d 8 ≡ true) → (b ≡ true → d 2 ≡ true) → Based base ≡ cond z (cond h (Based 16) (cond o (Based 8) (cond b (Based 2) (cond c Character Decimal)))) Decimal → IsBased base rest
    go true true o b c f g k e = made 16 (lit< tt) (lit≤ tt) (f refl) e
    go true false true b c f g k e = made 8 (lit< tt) (lit≤ tt) (g refl) e
    go true false false true c f g k e = made 2 (lit< tt) (lit≤ tt) (k refl) e
    go true false false false true f g k e = cc
    go true false false false false f g k e = cc
    go false h o b c f g k e = cc

pub form-character : (bs : List ℕ) → Character ≡ form bs → 2 < length bs
form-character bs e = go (at bs 0 == 48) ((at bs 1 == 120) && is_digit_of 16 (at (drop 2 bs) 0)) ((at bs 1 == 111) && is_digit_of 8 (at (drop 2 bs) 0)) ((at bs 1 == 98) && is_digit_of 2 (at (drop 2 bs) 0)) ((at bs 1 == 39) && starts_character (drop 2 bs)) (λ t. there (drop 2 bs) refl (right_true (at bs 1 == 39) (starts_character (drop 2 bs)) t)) e
  where
    there : (rest : List ℕ) → drop 2 bs ≡ rest → starts_character rest ≡ true → 2 < length bs
    there [] f t = cc
    there (c ∷ cs) f t = let long = ap length f in omega (arith, long, length-drop 2 bs)

    go : (z h o b c : Bool) → (c ≡ true → 2 < length bs) → Character ≡ cond z (cond h (Based 16) (cond o (Based 8) (cond b (Based 2) (cond c Character Decimal)))) Decimal → 2 < length bs
    go true true o b c f e = cc
    go true false true b c f e = cc
    go true false false true c f e = cc
    go true false false false true f e = f refl
    go true false false false false f e = cc
    go false h o b c f e = cc

-- a run that begins with a digit has one
pub some_digits : (base : ℕ) (bs : List ℕ) → is_digit_of base (at bs 0) ≡ true → 0 < prefix_len (is_digit_of base) bs
some_digits base [] e = cc
some_digits base (b ∷ bs) e = let n : cond (is_digit_of base b) (1 + prefix_len (is_digit_of base) bs) 0 ≡ 1 + prefix_len (is_digit_of base) bs = ap (λ t. cond t (1 + prefix_len (is_digit_of base) bs) 0) e in omega (arith, n)

-- numbers by their forms
pub based_number : (start base stop : ℕ) (text : List ℕ) → Based base ≡ form (drop start text) → stop ≡ start + 2 + prefix_len (is_digit_of base) (drop (start + 2) text) → digits start (drop start text) ≡ number base start stop (slice_range text (start + 2) stop)
unfolding digits
based_number start base stop text e f =
    let bs = drop start text in
    let two : drop 2 bs ≡ drop (start + 2) text = drop-drop 2 start text in
    let n = prefix_len (is_digit_of base) (drop 2 bs) in
    let count : n ≡ prefix_len (is_digit_of base) (drop (start + 2) text) = ap (prefix_len (is_digit_of base)) two in
    let ends : start + (2 + n) ≡ stop = omega (arith, count) in
    let long : n ≡ stop - (start + 2) = omega (arith, count) in
    ap (λ m. of_form m start bs) (sym e) ∙ (λ i. number base start (ends i) (take (long i) (two i)))

pub character_number : (start : ℕ) (text : List ℕ) → Character ≡ form (drop start text) → digits start (drop start text) ≡ Tok (Int (get_or text (start + 2) 0)) start (start + 3)
unfolding digits
character_number start text e = ap (λ m. of_form m start (drop start text)) (sym e) ∙ ap (λ n. Tok (Int n) start (start + 3)) (after start 2 text)

pub decimal_digits : (start : ℕ) (text : List ℕ) → Decimal ≡ form (drop start text) → digits start (drop start text) ≡ decimal start (prefix_len (is_digit_of 10) (drop start text)) (drop start text)
unfolding digits
decimal_digits start text e = ap (λ m. of_form m start (drop start text)) (sym e)
