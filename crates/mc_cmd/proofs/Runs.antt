-- What is put of a run, step by step.
use Rattle.std.proofs.Common.{◌≡◌, ℕ, suc, ◌<◌, ◌≤◌, Bool, true, false, List, [], ◌∷◌, ◌++◌, map, codes, Option, Some, None, Result, Ok, Err, refl, sym, ap, ◌∙◌, subst, arith, append_assoc}
use Rattle.std.specs.Result.{IsErrAnd}
use Rattle.mc_program.specs.Values.{Val, plain_value}
use Rattle.mc_program.specs.declared.value.Value.{Value}
use Rattle.mc_program.specs.Printed.{answer_text}
use Rattle.mc_model.specs.EventList.{End, Stuck, Stopped, Answer, Called, Wrote, Read, Halt, Ends, written}
use Rattle.mc_model.specs.Output.{bytes_of, no_answer, texts_of}
use Rattle.mc_outside.specs.Meaning.{PutsFront}
use Rattle.mc_outside.specs.declared.traits.PutFault.{PutFault}
use Rattle.mc_cmd.specs.declared.run.Progress.{Progress}
use Rattle.mc_cmd.specs.Call as call
use Rattle.mc_cmd.specs.Ends.{stop_of}
use Rattle.mc_cmd.specs.code.Runs.{QueryItems, from_next, bound, size, last_line, rest_bytes, GoesOn, IsPut}
use Rattle.mc_cmd.proofs.Puts.{front_longer, wrote_nothing}

bytes_next : (text : Val → List ℕ) (vs : List (List ℕ)) (xs : QueryItems) → bytes_of text vs xs ≡ bytes_of text vs (from_next xs)
bytes_next text vs End = refl
bytes_next text vs Stuck = refl
bytes_next text vs (Stopped h) = refl
bytes_next text vs (Answer a xs) = refl
bytes_next text vs (Called c xs) = bytes_next text vs xs
bytes_next text vs (Wrote t xs) = refl
bytes_next text vs (Read k xs) = refl

no_answer_next : (xs : QueryItems) → no_answer xs ≡ no_answer (from_next xs)
no_answer_next End = refl
no_answer_next Stuck = refl
no_answer_next (Stopped h) = refl
no_answer_next (Answer a xs) = refl
no_answer_next (Called c xs) = no_answer_next xs
no_answer_next (Wrote t xs) = refl
no_answer_next (Read k xs) = refl

pub stop_next : (xs : QueryItems) → stop_of xs ≡ stop_of (from_next xs)
stop_next End = refl
stop_next Stuck = refl
stop_next (Stopped h) = refl
stop_next (Answer a xs) = refl
stop_next (Called c xs) = stop_next xs
stop_next (Wrote t xs) = refl
stop_next (Read k xs) = refl

ends_next : (xs : QueryItems) → Ends (from_next xs) → Ends xs
ends_next End e = e
ends_next Stuck e = e
ends_next (Stopped h) e = e
ends_next (Answer a xs) e = e
ends_next (Called c xs) e = ends_next xs e
ends_next (Wrote t xs) e = e
ends_next (Read k xs) e = e

size_next : (xs : QueryItems) → size (from_next xs) ≤ size xs
size_next End = omega arith
size_next Stuck = omega arith
size_next (Stopped h) = omega arith
size_next (Answer a xs) = omega arith
size_next (Called c xs) = omega (arith, size_next xs)
size_next (Wrote t xs) = omega arith
size_next (Read k xs) = omega arith

-- the texts that are still to be written are those from the next item on
texts_next : (xs : QueryItems) → written xs ≡ written (from_next xs)
texts_next End = refl
texts_next Stuck = refl
texts_next (Stopped h) = refl
texts_next (Answer a xs) = refl
texts_next (Called c xs) = texts_next xs
texts_next (Wrote t xs) = refl
texts_next (Read k xs) = refl

pub texts_by : (xs ys : QueryItems) → from_next xs ≡ ys → written xs ≡ written ys
texts_by xs ys e = texts_next xs ∙ ap written e

pub stop_by : (xs ys : QueryItems) → from_next xs ≡ ys → stop_of xs ≡ stop_of ys
stop_by xs ys e = stop_next xs ∙ ap stop_of e

pub ends_by : (xs ys : QueryItems) → from_next xs ≡ ys → Ends ys → Ends xs
ends_by xs ys e f = ends_next xs (subst Ends (sym e) f)

pub smaller_by : (xs ys zs : QueryItems) → from_next xs ≡ zs → size zs ≡ suc (size ys) → size ys < size xs
smaller_by xs ys zs e n = omega (arith, size_next xs, ap size e, n)

last_next : (a : Bool) (xs : QueryItems) → last_line a xs ≡ last_line a (from_next xs)
last_next true xs = refl
last_next false xs = no_answer_next xs

-- the bytes that are still to be put are those from the next item on
pub rest_next : (text : Val → List ℕ) (vs : List (List ℕ)) (a : Bool) (xs ys : QueryItems) → from_next xs ≡ ys → rest_bytes text vs a xs ≡ rest_bytes text vs a ys
rest_next text vs a xs ys e =
    ap (λ (bs : List ℕ). bs ++ last_line a xs) (bytes_next text vs xs) ∙ ap (λ (bs : List ℕ). bytes_of text vs (from_next xs) ++ bs) (last_next a xs)
    ∙ ap (rest_bytes text vs a) e

-- what is put of an answer, a text or an end
answer_rest : (text : Val → List ℕ) (vs : List (List ℕ)) (a : Bool) (os : List (Option Val)) (ys : QueryItems) → rest_bytes text vs a (Answer os ys) ≡ answer_text vs (texts_of text os) ++ rest_bytes text vs true ys
answer_rest text vs true os ys = append_assoc (answer_text vs (texts_of text os)) (bytes_of text vs ys) []
answer_rest text vs false os ys = append_assoc (answer_text vs (texts_of text os)) (bytes_of text vs ys) []

text_last : (a : Bool) (t : List ℕ) (ys : QueryItems) → last_line a (Wrote t ys) ≡ last_line a ys
text_last true t ys = refl
text_last false t ys = refl

text_rest : (text : Val → List ℕ) (vs : List (List ℕ)) (a : Bool) (t : List ℕ) (ys : QueryItems) → rest_bytes text vs a (Wrote t ys) ≡ t ++ rest_bytes text vs a ys
text_rest text vs a t ys = append_assoc t (bytes_of text vs ys) (last_line a (Wrote t ys)) ∙ ap (λ (bs : List ℕ). t ++ (bytes_of text vs ys ++ bs)) (text_last a t ys)

-- the texts of values that are bound
pub texts_bound : (text : Val → List ℕ) (values : List Value) → texts_of text (bound values) ≡ map (λ (v : Value). text (plain_value v)) values
texts_bound text [] = refl
texts_bound text (v ∷ vs) = ap (λ (ts : List (List ℕ)). text (plain_value v) ∷ ts) (texts_bound text vs)

module _ (text : Val → List ℕ) (vs : List (List ℕ)) (a : Bool) (xs ys : QueryItems) (w0 w1 : Option (List ℕ)) where
  -- the line of an answer was put
  pub answer_goes : (values : List Value) (texts : List (List ℕ)) → from_next xs ≡ Answer (bound values) ys → texts ≡ texts_of text (bound values) → call.Wrote w0 w1 (answer_text vs texts) → GoesOn text vs a true xs ys w0 w1
  answer_goes values texts e t w =
      record {
        piece = answer_text vs texts;
        wrote = w;
        behind = rest_next text vs a xs (Answer (bound values) ys) e ∙ answer_rest text vs a (bound values) ys ∙ ap (λ (ts : List (List ℕ)). answer_text vs ts ++ rest_bytes text vs true ys) (sym t);
        fewer = omega (arith, size_next xs, ap size e);
        same_end = sym (stop_next xs ∙ ap stop_of e);
        ends = λ f. ends_next xs (subst Ends (sym e) f);
      }

  -- or a front part of it
  pub answer_breaks : (values : List Value) (texts : List (List ℕ)) → from_next xs ≡ Answer (bound values) ys → texts ≡ texts_of text (bound values) → PutsFront w0 w1 (answer_text vs texts) → PutsFront w0 w1 (rest_bytes text vs a xs)
  answer_breaks values texts e t f =
      subst (λ (bs : List ℕ). PutsFront w0 w1 bs)
      (sym (rest_next text vs a xs (Answer (bound values) ys) e ∙ answer_rest text vs a (bound values) ys ∙ ap (λ (ts : List (List ℕ)). answer_text vs ts ++ rest_bytes text vs true ys) (sym t)))
      (front_longer w0 w1 (answer_text vs texts) (rest_bytes text vs true ys) f)

  -- a text was put
  pub text_goes : (t : List ℕ) → from_next xs ≡ Wrote t ys → call.Wrote w0 w1 t → GoesOn text vs a a xs ys w0 w1
  text_goes t e w =
      record {
        piece = t;
        wrote = w;
        behind = rest_next text vs a xs (Wrote t ys) e ∙ text_rest text vs a t ys;
        fewer = omega (arith, size_next xs, ap size e);
        same_end = sym (stop_next xs ∙ ap stop_of e);
        ends = λ f. ends_next xs (subst Ends (sym e) f);
      }

  -- or a front part of it
  pub text_breaks : (t : List ℕ) → from_next xs ≡ Wrote t ys → PutsFront w0 w1 t → PutsFront w0 w1 (rest_bytes text vs a xs)
  text_breaks t e f =
      subst (λ (bs : List ℕ). PutsFront w0 w1 bs) (sym (rest_next text vs a xs (Wrote t ys) e ∙ text_rest text vs a t ys))
      (front_longer w0 w1 t (rest_bytes text vs a ys) f)

-- a fault of a put is passed on by a `?`
pub passed_put : (Q : PutFault → Type 0) (text : Val → List ℕ) (vs : List (List ℕ)) (a : Bool) (xs ys : QueryItems) (w0 w1 : Option (List ℕ)) (r : Result Progress PutFault) → IsErrAnd r Q → PutsFront w0 w1 (rest_bytes text vs a xs) → IsPut text vs a xs ys w0 w1 r
passed_put Q text vs a xs ys w0 w1 (Ok y) e p = absurd e
passed_put Q text vs a xs ys w0 w1 (Err f) e p = p

end_unanswered : (text : Val → List ℕ) (vs : List (List ℕ)) (a : Bool) → a ≡ false → codes "false.\n" ≡ rest_bytes text vs a End
end_unanswered text vs true e = cc
end_unanswered text vs false e = refl

end_answered : (text : Val → List ℕ) (vs : List (List ℕ)) (a : Bool) → a ≡ true → [] ≡ rest_bytes text vs a End
end_answered text vs true e = refl
end_answered text vs false e = cc

stop_nothing : (text : Val → List ℕ) (vs : List (List ℕ)) (a : Bool) (h : Halt) → [] ≡ rest_bytes text vs a (Stopped h)
stop_nothing text vs true h = refl
stop_nothing text vs false h = refl

module _ (text : Val → List ℕ) (vs : List (List ℕ)) (a : Bool) (xs : QueryItems) (w0 w1 : Option (List ℕ)) where
  -- at the end `false.` was put, where no answer came
  pub end_said : from_next xs ≡ End → a ≡ false → call.Wrote w0 w1 (codes "false.\n") → call.Wrote w0 w1 (rest_bytes text vs a xs) × ((stop_of xs ≡ None) × Ends xs)
  end_said e n w = (subst (λ (bs : List ℕ). call.Wrote w0 w1 bs) (end_unanswered text vs a n ∙ sym (rest_next text vs a xs End e)) w, (stop_next xs ∙ ap stop_of e, ends_next xs (subst Ends (sym e) tt)))

  -- or a front part of it
  pub end_breaks : from_next xs ≡ End → a ≡ false → PutsFront w0 w1 (codes "false.\n") → PutsFront w0 w1 (rest_bytes text vs a xs)
  end_breaks e n f = subst (λ (bs : List ℕ). PutsFront w0 w1 bs) (end_unanswered text vs a n ∙ sym (rest_next text vs a xs End e)) f

  -- or nothing, where one came
  pub end_quiet : from_next xs ≡ End → a ≡ true → w1 ≡ w0 → call.Wrote w0 w1 (rest_bytes text vs a xs) × ((stop_of xs ≡ None) × Ends xs)
  end_quiet e n w = (subst (λ (bs : List ℕ). call.Wrote w0 w1 bs) (end_answered text vs a n ∙ sym (rest_next text vs a xs End e)) (wrote_nothing w0 w1 w), (stop_next xs ∙ ap stop_of e, ends_next xs (subst Ends (sym e) tt)))

  -- at a stop nothing is put
  pub stop_quiet : (h : Halt) → from_next xs ≡ Stopped h → w1 ≡ w0 → call.Wrote w0 w1 (rest_bytes text vs a xs) × (stop_of xs ≡ Some h)
  stop_quiet h e w = (subst (λ (bs : List ℕ). call.Wrote w0 w1 bs) (stop_nothing text vs a h ∙ sym (rest_next text vs a xs (Stopped h) e)) (wrote_nothing w0 w1 w), stop_next xs ∙ ap stop_of e)
