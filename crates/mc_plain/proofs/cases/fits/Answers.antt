use Rattle.std.proofs.Common.{◌∙◌, ap}
use Rattle.mc_values.specs.Heap.{value_at}
use Rattle.mc_plain.proofs.SameValues.{test_is}
use Rattle.mc_flat_code.specs.Running.{fits_label, label_of}
use Rattle.mc_flat_code.specs.declared.code.Key.{Key}
use Rattle.mc_plain.proofs.Casing.{constant_there, no_constant_there, fits_constant, fits_no_constant}
use Rattle.mc_plain.proofs.cases.fits.Goals as goal

pub returns-in_ok-same-in-Some-get : goal.returns-in_ok-same-in-Some-get
returns-in_ok-same-in-Some-get c =
    λ code are.
    let w = value_at c.args.heap.now c.args.value in
    ap (λ (key : Key). fits_label w (label_of code key)) c.in-Constant.is
    ∙ fits_constant c.args.heap.now code c.args.constants.now are w c.in-Constant.k c.in-Some-get.constant.now (constant_there c.args.heap.now code c.args.constants.now are w c.in-Constant.k c.in-Some-get.constant c.in-Some-get.ensures.lookup)
    ∙ test_is c.in_ok-same-in-Some-get.same w (value_at c.args.heap.now c.in-Some-get.constant.now) c.in_ok-same-in-Some-get.ensures

pub returns-in-None-get : goal.returns-in-None-get
returns-in-None-get c =
    λ code are.
    let w = value_at c.args.heap.now c.args.value in
    ap (λ (key : Key). fits_label w (label_of code key)) c.in-Constant.is
    ∙ fits_no_constant c.args.heap.now code c.args.constants.now are w c.in-Constant.k (no_constant_there c.args.heap.now code c.args.constants.now are w c.in-Constant.k c.in-None-get.ensures.lookup)
