-- The flags of an account and the bits of options, by the code's names of them. No exported promise speaks of these names: each is a definition's test.
-- Assumes nothing.
use Rattle.std.specs.Prelude.{ℕ, Bool}
use Rattle.definitions.specs.Accounts.{is_disabled, is_barred, is_trusted, is_service}
use Rattle.definitions.specs.Fields.{has_bit}
use Rattle.definitions.specs.Options.{is_forwardable, has_cname_in_addl_tkt, is_resource_based}
use Rattle.definitions.specs.declared.account.Account.{Account}
use Rattle.rules.specs.declared.accounts.Flag.{Flag}
use Rattle.rules.specs.declared.accounts.Flag.TheVariants.{Disabled, Barred, Trusted, Service}
use Rattle.rules.specs.declared.options.Bit.{Bit}
use Rattle.rules.specs.declared.options.Bit.TheVariants as bit

-- an account has a flag
abbrev pub has_flag : Account → Flag → Bool
has_flag account Disabled = is_disabled account
has_flag account Barred = is_barred account
has_flag account Trusted = is_trusted account
has_flag account Service = is_service account

-- a bit stands in flags or options; FORWARDABLE is the same one in both
abbrev pub has_option : Bit → ℕ → Bool
has_option bit.CnameInAddlTkt bits = has_cname_in_addl_tkt bits
has_option bit.Initial bits = has_bit bits 22
has_option bit.ResourceBased bits = is_resource_based bits
has_option bit.Forwardable bits = is_forwardable bits

-- the flags that have it alone
abbrev pub mask_of : Bit → ℕ
mask_of bit.CnameInAddlTkt = 0x00020000
mask_of bit.Initial = 0x00400000
mask_of bit.ResourceBased = 0x10000000
mask_of bit.Forwardable = 0x40000000
