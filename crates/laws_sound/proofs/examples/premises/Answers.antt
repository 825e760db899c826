use Rattle.laws_sound.proofs.TurnedPremises.{insts_asked, symbols_asked, builtins_asked, determinisms_asked, sums_fail, marks_asked, arms_asked, io_asked}
use Rattle.laws_sound.proofs.NeededInsts.{unique_insts_asked}
use Rattle.laws_sound.proofs.NeededPremises.{head_types_asked, atoms_asked, heads_asked, predicates_asked}
use Rattle.laws_sound.proofs.examples.premises.Goals as goal

pub returns-clause-insts : goal.returns-clause-insts
returns-clause-insts c = insts_asked

pub returns-clause-symbols : goal.returns-clause-symbols
returns-clause-symbols c = symbols_asked

pub returns-clause-builtins : goal.returns-clause-builtins
returns-clause-builtins c = builtins_asked

pub returns-clause-determinisms : goal.returns-clause-determinisms
returns-clause-determinisms c = determinisms_asked

pub returns-clause-sums : goal.returns-clause-sums
returns-clause-sums c = sums_fail

pub returns-clause-arms : goal.returns-clause-arms
returns-clause-arms c = arms_asked

pub returns-clause-marks : goal.returns-clause-marks
returns-clause-marks c = marks_asked

pub returns-clause-io : goal.returns-clause-io
returns-clause-io c = io_asked

pub returns-clause-head_types : goal.returns-clause-head_types
returns-clause-head_types c = head_types_asked

pub returns-clause-heads : goal.returns-clause-heads
returns-clause-heads c = heads_asked

pub returns-clause-predicates : goal.returns-clause-predicates
returns-clause-predicates c = predicates_asked

pub returns-clause-atoms : goal.returns-clause-atoms
returns-clause-atoms c = atoms_asked

pub returns-clause-unique_insts : goal.returns-clause-unique_insts
returns-clause-unique_insts c = unique_insts_asked
