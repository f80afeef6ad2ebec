-- Levels and rights, as texts name them.
use Rattle.std.specs.Prelude.{ℕ, Bool, if◌then◌else◌, List, ◌++◌, codes}
use Rattle.pg_entry.specs.declared.Level.{Level}
use Rattle.pg_entry.specs.declared.Level.TheVariants.{Four, Three, Two, One}
use Rattle.pg_entry.specs.declared.Rights.{Rights}

abbrev pub level_number : Level → ℕ
level_number Four = 4
level_number Three = 3
level_number Two = 2
level_number One = 1

-- a letter where the right is given, else a dash
abbrev pub mark : Bool → List ℕ → List ℕ
mark given letter = if given then letter else codes "-"

-- `w` for write, `u` for user, `n` for not executable
abbrev pub rights_text : Rights → List ℕ
rights_text r =
    mark r.write (codes "w") ++ (mark r.user (codes "u") ++ mark r.xd (codes "n"))
