use Rattle.std.proofs.Common.{◌≡◌, ℕ, List, [], ◌∷◌, ◌++◌, length, take, drop, ap, ap₂, subst, ◌∙◌, arith, length-append}
use Rattle.std.proofs.lemmas.List.{drop-append-le, take-append-le}
use Rattle.mc_types.specs.declared.written_types.Written.{Written, Free}
use Rattle.mc_typecheck.specs.Searched.{plain_signature}
use Rattle.mc_typecheck.specs.code.Named.{AreNamed}
use Rattle.mc_typecheck.proofs.Naming.{named_with_free}
use Rattle.mc_typecheck.proofs.named.NamedWalk.push_term.Goals as goal

pub returns : goal.returns
returns c = λ yes.
    let w = c.args.self.now in
    let n = c.len-place.result in
    let from = c.args.from in
    let d = plain_signature c.args.signature.now in
    let after = c.take-named.new.self.types.items in
    let taken = c.take-named.ensures yes in
    let long : n ≡ length w.types.items = omega (arith, c.len-place.ensures, w.types.ok) in
    let types : c.push.new.self.items ≡ w.types.items ++ Free n ∷ [] = c.in_ok-push.ensures.items in
    let stack : c.push-2.new.self.items ≡ w.stack.items ++ n ∷ [] = c.in_ok-push-2.ensures.items in
    let places : drop from c.push-2.new.self.items ≡ drop from w.stack.items ++ length w.types.items ∷ [] =
    ap (drop from) stack ∙ drop-append-le from w.stack.items (n ∷ []) c.requires ∙ ap (λ k. drop from w.stack.items ++ k ∷ []) long in
    let Q : List Written → List ℕ → Type 0 = λ ws ps. AreNamed ws d ps after in
    record {
      as_many = omega (arith, taken.as_many, ap length types, length-append w.types.items (Free n ∷ []));
      named = named_with_free w.types.items after n d (drop from w.stack.items ++ length w.types.items ∷ []) long (subst (Q (w.types.items ++ Free n ∷ [])) places (subst (λ ws. Q ws (drop from c.push-2.new.self.items)) types taken.named));
      stack = c.in_ok-push-3.ensures.items ∙ ap₂ (λ xs k. xs ++ k ∷ []) (taken.stack ∙ ap (take from) stack ∙ take-append-le from w.stack.items (n ∷ []) c.requires) long;
      picks = taken.picks;
    }
