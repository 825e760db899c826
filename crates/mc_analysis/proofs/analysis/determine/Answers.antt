use Rattle.mc_analysis.proofs.analysis.determine.Goals as goal

pub returns : goal.returns
returns c =
    record {
      switched = c.switches.new.procs;
      between = c.in_ok-pruned.pruned;
      forms = c.in_ok-switches.ensures.switched;
      pruned = c.in_ok-pruned.ensures;
      inferred = c.in_ok-made.ensures.inferred;
      marks = c.in_ok-made.ensures.marks;
      least = c.in_ok-made.ensures.least;
    }
