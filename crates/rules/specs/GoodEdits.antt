-- The edit that the code has once it is read (R2.8). No exported promise speaks of it.
-- Assumes nothing.
use Rattle.definitions.specs.Edits.{Edit, edit_of}
use Rattle.rules.specs.NameSearch.{bytes_of}
use Rattle.rules.specs.declared.edit.GoodEdit.{GoodEdit}

-- the edit that it stands for
abbrev pub edit_in : GoodEdit → Edit
edit_in good = edit_of good.number (bytes_of good.name.name) good.settings.flags good.settings.send good.settings.receive good.settings.lifetime
