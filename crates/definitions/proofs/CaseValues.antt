-- What the tables of cases share: tickets, tables and the bytes of requests, each from its parts.
-- Assumes nothing.
use mathlib.Core.Bool.{Bool}
use mathlib.Core.List.{List, [], ◌∷◌, ◌++◌}
use Prim.Native.Nat.{ℕ, ◌-◌}
use lib.ListN.{length, replicate}
use Rattle.definitions.specs.Limits.{longest_record}
use Rattle.definitions.specs.TicketRecords.{record_of}
use Rattle.definitions.specs.Accounts.{no_row, Table}
use Rattle.definitions.specs.Edits.{edit_of, edit_row}
use Rattle.definitions.specs.declared.ticket.Origin.{Origin}
use Rattle.definitions.specs.declared.ticket.Ticket.{Ticket}
use Rattle.definitions.proofs.DecisionCases.{tech, web, store}

-- a name that no account of the cases has
abbrev pub ghost : List ℕ
ghost = 0x67 ∷ 0x68 ∷ 0x6f ∷ 0x73 ∷ 0x74 ∷ []

-- as many bytes of output as the longest record has
abbrev pub enough : ℕ
enough = longest_record

-- a ticket: number, flags, client, service, start, end, origin, the accounts of its trail, mark
abbrev pub ticket : ℕ → ℕ → ℕ → ℕ → ℕ → ℕ → Origin → List ℕ → Bool → Ticket
ticket number flags client service start end origin trail mark =
    record {
      number = number;
      flags = flags;
      client = client;
      service = service;
      window = record { start = start; end = end };
      origin = origin;
      trail = trail ++ replicate (8 - length trail) 0;
      hops = length trail;
      barred = mark;
    }

-- R11.1: 0 `tech`, 1 `web`, 2 `store`, with these flags; `web` has a send set, `store` a receive set; all have one lifetime
abbrev pub accounts : ℕ → ℕ → ℕ → ℕ → ℕ → ℕ → Table
accounts flags0 flags1 flags2 send receive lifetime =
    edit_row (edit_of 0 tech flags0 0 0 lifetime) ∷ edit_row (edit_of 1 web flags1 send 0 lifetime)
    ∷ edit_row (edit_of 2 store flags2 0 receive lifetime) ∷ replicate 61 no_row

-- ---- Requests with every field that their kind allows (R4.1, R4.2); options, PAC options and till are four bytes each
-- a field behind its length byte
abbrev pub counted : List ℕ → List ℕ
counted part = length part ∷ part

-- nothing is asked for
abbrev pub nothing : List ℕ
nothing = replicate 4 0

abbrev pub request-1 : List ℕ → List ℕ → List ℕ → List ℕ
request-1 options till user = 0x00 ∷ 0x4B ∷ 0x01 ∷ options ++ till ++ counted user

abbrev pub request-2 : List ℕ → List ℕ → Ticket → List ℕ → List ℕ
request-2 options till tgt service = 0x00 ∷ 0x9B ∷ 0x02 ∷ options ++ till ++ counted (record_of tgt) ++ counted service

abbrev pub request-3 : List ℕ → List ℕ → Ticket → List ℕ → List ℕ
request-3 options till tgt user = 0x00 ∷ 0x5B ∷ 0x03 ∷ options ++ till ++ counted (record_of tgt) ++ counted user

abbrev pub request-4 : List ℕ → List ℕ → List ℕ → Ticket → Ticket → List ℕ → List ℕ
request-4 options pac till tgt evidence service =
    0x00 ∷ 0xBF ∷ 0x04 ∷ options ++ pac ++ till ++ counted (record_of tgt) ++ counted (record_of evidence) ++ counted service
