use Rattle.std.proofs.Common.{arith, refl, sym, ap, subst, ◌∙◌, ◌≡◌, ◌+◌, ◌≤◌}
use Rattle.mc_compile.specs.declared.reader.Reader.{Reader}
use Rattle.mc_compile.specs.Reading.{counted, greatest_sources}
use Rattle.mc_compile.proofs.ReadFiles.{whole_file, faulty_file}
use Rattle.mc_compile.proofs.reader.Reader.read.Goals as goal

pub returns-in_ok-push-in-Ok : goal.returns-in_ok-push-in-Ok
returns-in_ok-push-in-Ok c =
    let old = c.args.self.now in
    let bytes : old.bytes + c.min.result ≡ old.bytes + counted c.args.text.now = omega (arith, c.min.ensures) in
    let short : old.bytes + c.min.result ≤ greatest_sources = omega (arith, c.if-self-gt-GREATEST_SOURCES.false) in
    whole_file c.args.text.now c.in-Ok.entries old _ c.in-Ok.ensures.whole refl bytes short refl c.in_ok-push-in-Ok.ensures.items

pub returns-in_ok-put-in-Err-Broken : goal.returns-in_ok-put-in-Err-Broken
returns-in_ok-put-in-Err-Broken c =
    let old = c.args.self.now in
    let put = c.in_ok-put-in-Err-Broken.ensures {u = tt} in
    let number = ap (λ (r : Reader). r.number) put.same in
    let bytes = ap (λ (r : Reader). r.bytes) put.same in
    let counts : old.bytes + c.min.result ≡ old.bytes + counted c.args.text.now = omega (arith, c.min.ensures) in
    let short : old.bytes + c.min.result ≤ greatest_sources = omega (arith, c.if-self-gt-GREATEST_SOURCES.false) in
    faulty_file c.args.text.now c.in-Err-Broken.broken old c.put-in-Err-Broken.new.self (rw c.in-Err-Broken.field-0-is at c.in-Err-Broken.ensures.refusal)
    number (bytes ∙ counts) (subst (λ n. n ≤ greatest_sources) (sym bytes) short) put.broken
