-- The ticket that a request of each kind is given (R5.4 to R5.6, R5.8), under the next number (R5.10) and with its window; `asked` is whether its options
-- ask for FORWARDABLE.
-- Assumes nothing.
use Rattle.std.specs.Prelude.{ℕ, ◌+◌, Bool, true, false, not, ◌||◌, ◌&&◌, set, replicate, eqb}
use Rattle.definitions.specs.Limits.{trail_limit}
use Rattle.definitions.specs.Accounts.{is_barred, is_trusted}
use Rattle.definitions.specs.Options.{is_forwardable, flags_of}
use Rattle.definitions.specs.declared.window.Window.{Window}
use Rattle.definitions.specs.declared.ticket.Origin.{Origin}
use Rattle.definitions.specs.declared.ticket.Origin.TheVariants.{Initial, Direct, S4U2self, Delegated}
use Rattle.definitions.specs.declared.ticket.Ticket.{Ticket}
use Rattle.definitions.specs.declared.account.Account.{Account}
use Rattle.definitions.specs.declared.account.Named.{Named}

-- a ticket that came by no hop
abbrev pub without_trail : ℕ → ℕ → ℕ → ℕ → Window → Origin → Bool → Ticket
without_trail number flags client service window origin barred =
    record {
      number = number;
      flags = flags;
      client = client;
      service = service;
      window = window;
      origin = origin;
      trail = replicate trail_limit 0;
      hops = 0;
      barred = barred;
    }

-- R5.4, kind 1: the user is the client. The mark is the client's bar; FORWARDABLE where it is asked for and there is no mark
unfoldable pub initial_ticket : ℕ → Bool → Named → Window → Ticket
initial_ticket next asked user window =
    without_trail next (flags_of (asked && not (is_barred user.account)) true) user.number 0 window Initial (is_barred user.account)

-- R5.5, kind 2: the mark is the TGT's, or comes of the client's bar now
abbrev pub direct_mark : Account → Ticket → Bool
direct_mark client tgt = tgt.barred || is_barred client

-- R5.5, kind 2: the TGT's client, to the service of a number. FORWARDABLE where it is asked for, the TGT has it, and there is no mark
unfoldable pub direct_ticket : ℕ → Bool → Ticket → Account → ℕ → Window → Ticket
direct_ticket next asked tgt client number window =
    without_trail next (flags_of (asked && (is_forwardable tgt.flags && not (direct_mark client tgt))) false) tgt.client number window
    (Direct tgt.number) (direct_mark client tgt)

-- R5.6, kind 3, where there is no mark: FORWARDABLE for a trusted Service 1; for one that is not trusted only with an empty send set, and then
-- where it is asked for and the TGT has it
abbrev pub s4u2self_forwardable : Account → Bool → Ticket → Bool
s4u2self_forwardable service1 asked tgt = is_trusted service1 || (eqb service1.send 0 && (asked && is_forwardable tgt.flags))

-- R5.6, kind 3: the user is the client, to Service 1. The mark is the user's bar, and with it the ticket is never FORWARDABLE
unfoldable pub s4u2self_ticket : ℕ → Bool → Ticket → Account → Named → Window → Ticket
s4u2self_ticket next asked tgt service1 user window =
    without_trail next (flags_of (not (is_barred user.account) && s4u2self_forwardable service1 asked tgt) false) user.number tgt.client window
    (S4U2self tgt.number) (is_barred user.account)

-- R5.8, kind 4: the evidence's client, mark and FORWARDABLE, to the Service 2 of a number; the evidence's trail with Service 1 behind it
unfoldable pub s4u2proxy_ticket : ℕ → Ticket → Ticket → ℕ → Window → Ticket
s4u2proxy_ticket next tgt evidence number window =
    record {
      number = next;
      flags = flags_of (is_forwardable evidence.flags) false;
      client = evidence.client;
      service = number;
      window = window;
      origin = Delegated tgt.number evidence.number;
      trail = set evidence.trail evidence.hops tgt.client;
      hops = evidence.hops + 1;
      barred = evidence.barred;
    }
