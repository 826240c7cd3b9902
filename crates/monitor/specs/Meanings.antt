-- What the monitors of a type mean, by the ghost members of the trait.
use Rattle.model.specs.Monitor.{Meaning, meant}
use Rattle.monitor.specs.declared.monitor.Monitor.{Ghosts}

abbrev pub meaning : {M : Type 0} → Ghosts M → Meaning M
meaning g = meant g.lines g.ready g.ceiling g.left
