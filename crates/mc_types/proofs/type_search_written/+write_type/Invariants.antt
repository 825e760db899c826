use Rattle.mc_types.proofs.type_search_written.+write_type.Given as goal

abbrev pub decreases-write_type : goal.decreases-write_type
decreases-write_type l = l.depth
