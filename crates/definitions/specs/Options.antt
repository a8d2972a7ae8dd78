-- The bits of ticket flags, options and PAC options (R3.4, R4.4), each by its name.
-- Assumes nothing.
use Rattle.std.specs.Prelude.{ℕ, ◌+◌, Bool, cond}
use Rattle.definitions.specs.Fields.{has_bit}

-- R3.4: a ticket's flags have FORWARDABLE, 0x40000000
abbrev pub is_forwardable : ℕ → Bool
is_forwardable flags = has_bit flags 30

-- R4.4: a request's options ask for FORWARDABLE, 0x40000000
abbrev pub asks_forwardable : ℕ → Bool
asks_forwardable options = has_bit options 30

-- R4.4: a request's options have CNAME-IN-ADDL-TKT, 0x00020000
abbrev pub has_cname_in_addl_tkt : ℕ → Bool
has_cname_in_addl_tkt options = has_bit options 17

-- R4.4: a request's PAC options have the resource-based bit, 0x10000000
abbrev pub is_resource_based : ℕ → Bool
is_resource_based pac_options = has_bit pac_options 28

-- R3.4: the flags of a new ticket: FORWARDABLE 0x40000000 or not, INITIAL 0x00400000 or not
abbrev pub flags_of : Bool → Bool → ℕ
flags_of forwardable initial = cond forwardable 0x40000000 0 + cond initial 0x00400000 0
