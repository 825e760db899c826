-- What the walk inside quotes says, from a place between characters on.
use Rattle.std.proofs.Common.{◌≡◌, ℕ, ◌+◌, ◌-◌, ◌<◌, ◌≤◌, cond, List, [], ◌∷◌, ◌++◌, length, get_or, take, drop, sym, ap, ◌∙◌, append_assoc, arith}
use Rattle.std.specs.Prelude.{◌==◌, ◌≢◌, slice_range}
use Rattle.std.proofs.lemmas.Bool.{ne_eqb, eq-eqb}
use Rattle.mc_tokens.specs.Utf8.{char_len}
use Rattle.mc_tokens.specs.Spots.{At, Faulty, Go, Stop, Plain, Backslash}
use Rattle.mc_tokens.specs.Contents.{contents}
use Rattle.mc_tokens.specs.declared.token.FaultKind.TheVariants.{NotUtf8}
use Rattle.mc_tokens.proofs.CharLen.{drop-at}
use Rattle.mc_tokens.proofs.Quotes.{yes, no, next_is, adds, nothing_more, closing, doubling, escaping, plain}

module _ (q i : ℕ) (text : List ℕ) (h : i < length text) where
  abbrev b : ℕ
  b = get_or text i 0

  abbrev bs : List ℕ
  bs = drop (i + 1) text

  pub closing_says : b ≡ q → get_or text (i + 1) 0 ≢ q → contents q Plain 0 (drop i text) ≡ []
  closing_says e n = nothing_more q Plain i text h (At (0 + 1)) (closing q 0 0 b bs e (λ f. n (sym (next_is i text) ∙ f)))

  pub doubled_says : b ≡ q → get_or text (i + 1) 0 ≡ q → i + 2 ≤ length text → contents q Plain 0 (drop i text) ≡ (q ∷ []) ++ contents q Plain 0 (drop (i + 2) text)
  doubled_says e f r =
      adds q Plain i text h Plain 1 (i + 2) (doubling q 0 0 b bs e (next_is i text ∙ f)) (omega arith) r
      ∙ ap (λ l. l ++ contents q Plain 0 (drop (i + 2) text)) (yes (cond (b == 92) [] (take (char_len (b ∷ bs)) (b ∷ bs))) (eq-eqb b q e))

  pub backslash_says : b ≢ q → b ≡ 92 → contents q Plain 0 (drop i text) ≡ contents q (Backslash 0) 0 (drop (i + 1) text)
  backslash_says n e =
      adds q Plain i text h (Backslash 0) 0 (i + 1) (escaping q 0 0 b bs n e) (omega arith) (omega arith)
      ∙ ap (λ l. l ++ contents q (Backslash 0) 0 (drop (i + 1) text)) (no (q ∷ []) (ne_eqb b q n) ∙ yes (take (char_len (b ∷ bs)) (b ∷ bs)) (eq-eqb b 92 e))

  here_len : (n : ℕ) → n ≡ char_len (drop i text) → char_len (b ∷ bs) ≡ n
  here_len n e = sym (e ∙ ap char_len (drop-at text i h))

  pub plain_says : (n j : ℕ) → b ≢ q → b ≢ 92 → n ≡ char_len (drop i text) → 0 < n → i + n ≡ j → j ≤ length text → contents q Plain 0 (drop i text) ≡ slice_range text i j ++ contents q Plain 0 (drop j text)
  plain_says n j a c e p s r =
      let some : n ≢ 0 = λ z. absurd (omega arith) in
      let long : n ≡ j - i = omega arith in
      adds q Plain i text h Plain (n - 1) j
      (plain q 0 0 b bs a c ∙ ap (λ k. cond (k == 0) (Stop (Faulty NotUtf8 0)) (Go Plain (k - 1))) (here_len n e) ∙ no (Stop (Faulty NotUtf8 0)) (ne_eqb n 0 some)) (omega arith) r
      ∙ ap (λ l. l ++ contents q Plain 0 (drop j text))
      (no (q ∷ []) (ne_eqb b q a) ∙ no [] (ne_eqb b 92 c) ∙ ap (λ k. take k (b ∷ bs)) (here_len n e ∙ long) ∙ ap (take (j - i)) (sym (drop-at text i h)))

  pub bad_says : b ≢ q → b ≢ 92 → char_len (drop i text) ≡ 0 → contents q Plain 0 (drop i text) ≡ []
  bad_says a c z =
      nothing_more q Plain i text h (Faulty NotUtf8 0)
      (plain q 0 0 b bs a c ∙ ap (λ k. cond (k == 0) (Stop (Faulty NotUtf8 0)) (Go Plain (k - 1))) (here_len 0 (sym z)))

-- what was said so far, with what is said next
pub joined : (said next rest here whole now : List ℕ) → now ≡ said ++ next → here ≡ next ++ rest → said ++ here ≡ whole → now ++ rest ≡ whole
joined said next rest here whole now e f g = ap (λ l. l ++ rest) e ∙ append_assoc said next rest ∙ ap (λ l. said ++ l) (sym f) ∙ g
