-- What a word looks like to the parser, and what it is.
use Rattle.std.proofs.Common.{◌≡◌, ◌∙◌, refl, sym, ap, ℕ, Bool, true, false, cond, ◌&&◌, List, [], ◌∷◌, length, Option, Some, None, codes, arith, nat_eq, eqb-true}
use Rattle.std.specs.Str.{IsUtf8, bytes_eq, chars, encode_utf8_all}
use Rattle.std.specs.Char.{encode_utf8}
use Rattle.std.proofs.lemmas.Str.{encodes-chars}
use Rattle.clap.specs.Lexer.{long_of, short_of}
use Rattle.clap.specs.Walk.{Rule, Text}
use Rattle.mc_command_line.specs.Words.{Limit, Budget, Depth, Limits, Options, Plain, Unknown, Word, flag, named, word}
use Rattle.mc_command_line.proofs.Uses.{arg_named, first_arg, limit_arg}

-- a word that is no option to the parser
pub record IsNoOption (w : Text) : Type 0 where
  pub long : long_of w ≡ None
  pub short : short_of w ≡ None
  pub dashes : bytes_eq w (45 ∷ 45 ∷ []) ≡ false
  pub is : (o : Options) → word o w ≡ Plain

pub data Looks (w : Text) : Type 0 where
  no_option : IsNoOption w → Looks w
  dashes : w ≡ 45 ∷ 45 ∷ [] → Looks w
  long : (b : ℕ) (bs : Text) → w ≡ 45 ∷ 45 ∷ b ∷ bs → Looks w
  short : (b : ℕ) (bs : Text) → w ≡ 45 ∷ b ∷ bs → nat_eq b 45 ≡ false → Looks w

one_byte : (b : ℕ) → IsNoOption (b ∷ [])
one_byte b = go (nat_eq b 45) refl
  where
    go : (t : Bool) → nat_eq b 45 ≡ t → IsNoOption (b ∷ [])
    go true e = record { long = rw e refl; short = rw e refl; dashes = rw e refl; is = λ o. refl }
    go false e = record { long = rw e refl; short = rw e refl; dashes = rw e refl; is = λ o. refl }

plain_bytes : (b c : ℕ) (cs : Text) → nat_eq b 45 ≡ false → IsNoOption (b ∷ c ∷ cs)
plain_bytes b c cs e = record { long = rw e refl; short = rw e refl; dashes = rw e refl; is = λ o. rw e refl }

behind_two : (b c : ℕ) (cs : Text) → b ≡ 45 → c ≡ 45 → Looks (b ∷ c ∷ cs)
behind_two b c [] e f = dashes (λ i. e i ∷ f i ∷ [])
behind_two b c (d ∷ ds) e f = long d ds (λ i. e i ∷ f i ∷ d ∷ ds)

behind_one : (b c : ℕ) (cs : Text) → b ≡ 45 → Looks (b ∷ c ∷ cs)
behind_one b c cs e = go (nat_eq c 45) refl
  where
    go : (t : Bool) → nat_eq c 45 ≡ t → Looks (b ∷ c ∷ cs)
    go true f = behind_two b c cs e (eqb-true c 45 f)
    go false f = short c cs (ap (λ x. x ∷ c ∷ cs) e) f

pub looks : (w : Text) → Looks w
looks [] = no_option (record { long = refl; short = refl; dashes = refl; is = λ o. refl })
looks (b ∷ []) = no_option (one_byte b)
looks (b ∷ c ∷ cs) = go (nat_eq b 45) refl
  where
    go : (t : Bool) → nat_eq b 45 ≡ t → Looks (b ∷ c ∷ cs)
    go true e = behind_one b c cs (eqb-true b 45 e)
    go false e = no_option (plain_bytes b c cs e)

pub short-is : (o : Options) (b : ℕ) (bs : Text) → nat_eq b 45 ≡ false → word o (45 ∷ b ∷ bs) ≡ Unknown
short-is o b bs e = rw e refl

-- a character follows a first hyphen that isn't alone
pub record HasFirst (bs : Text) : Type 0 where
  pub first : ℕ
  pub rest : List ℕ
  pub is : chars bs ≡ first ∷ rest

char_behind : (b : ℕ) (bs : Text) → chars (45 ∷ b ∷ bs) ≡ 45 ∷ chars (b ∷ bs)
unfolding chars
char_behind b bs = refl

one_hyphen : length (encode_utf8_all (45 ∷ [])) ≡ 1
unfolding encode_utf8
one_hyphen = refl

pub first-behind : (b : ℕ) (bs : Text) → IsUtf8 (45 ∷ b ∷ bs) → HasFirst (b ∷ bs)
first-behind b bs text = go (chars (b ∷ bs)) refl
  where
    go : (cs : List ℕ) → chars (b ∷ bs) ≡ cs → HasFirst (b ∷ bs)
    go (c ∷ cs) e = record { first = c; rest = cs; is = e }
    go [] e =
        let back = encodes-chars (45 ∷ b ∷ bs) text in
        let alone : encode_utf8_all (45 ∷ []) ≡ 45 ∷ b ∷ bs = sym (ap encode_utf8_all (char_behind b bs ∙ ap (λ cs. 45 ∷ cs) e)) ∙ back in
        let lengths : 1 ≡ length (45 ∷ b ∷ bs) = sym one_hyphen ∙ ap length alone in
        absurd (omega (arith, lengths))

-- what holds of each option by itself holds of the option that a name names
pub by_name : (o : Options) (name : Text) (P : (Option Text → Word) → Option Rule → Type 0) → P flag (Some first_arg)
    → ((l : Limit) → o.bounds ≡ true → P (Limits l) (Some (limit_arg l))) → P (λ value. Unknown) None → P (λ value. named o name value) (arg_named o name)
by_name o name P of_first of_limit of_none =
    first (o.first && bytes_eq (codes "first") name) (limits (bytes_eq (codes "budget") name) (bytes_eq (codes "depth") name) o.bounds refl)
  where
    depths : (b d : Bool) → o.bounds ≡ b → P (λ value. cond (b && d) (Limits Depth value) Unknown) (cond (b && d) (Some (limit_arg Depth)) None)
    depths true true e = of_limit Depth e
    depths true false e = of_none
    depths false d e = of_none

    limits : (d t b : Bool) → o.bounds ≡ b → P
        (λ value. cond (b && d) (Limits Budget value) (cond (b && t) (Limits Depth value) Unknown))
        (cond (b && d) (Some (limit_arg Budget)) (cond (b && t) (Some (limit_arg Depth)) None))
    limits d t false e = of_none
    limits true t true e = of_limit Budget e
    limits false t true e = depths true t e

    first : (f : Bool) → P
        (λ value. cond (o.bounds && bytes_eq (codes "budget") name) (Limits Budget value) (cond (o.bounds && bytes_eq (codes "depth") name) (Limits Depth value) Unknown))
        (cond (o.bounds && bytes_eq (codes "budget") name) (Some (limit_arg Budget)) (cond (o.bounds && bytes_eq (codes "depth") name) (Some (limit_arg Depth)) None))
        → P (λ value. cond f (flag value) (cond (o.bounds && bytes_eq (codes "budget") name) (Limits Budget value) (cond (o.bounds && bytes_eq (codes "depth") name) (Limits Depth value) Unknown)))
        (cond f (Some first_arg) (cond (o.bounds && bytes_eq (codes "budget") name) (Some (limit_arg Budget)) (cond (o.bounds && bytes_eq (codes "depth") name) (Some (limit_arg Depth)) None)))
    first true others = of_first
    first false others = others
