-- What permits a hop of kind 4 (R5.7): no bar of the client, the option, and one of two routes, from Service 1, the TGT's client, to Service 2,
-- which the request names.
-- Assumes nothing.
use Rattle.std.specs.Prelude.{ℕ, Bool, not, ◌||◌, ◌&&◌}
use Rattle.definitions.specs.Accounts.{is_barred, in_set}
use Rattle.definitions.specs.Options.{is_forwardable}
use Rattle.definitions.specs.declared.ticket.Ticket.{Ticket}
use Rattle.definitions.specs.declared.account.Account.{Account}

-- R5.7: the classic route: Service 1 may send to Service 2, by its send set, and the evidence is FORWARDABLE
unfoldable pub classic_route : Account → Ticket → ℕ → Bool
classic_route service1 evidence number2 = in_set service1.send number2 && is_forwardable evidence.flags

-- R5.7: the resource route: the resource-based option stands, Service 2 receives from Service 1, by its receive set, and the evidence has no mark
unfoldable pub resource_route : Account → Bool → ℕ → Ticket → Bool
resource_route service2 resource number1 evidence = resource && (in_set service2.receive number1 && not evidence.barred)

-- R5.7: one of the two routes holds, no matter which, from the account of the first number to that of the second
unfoldable pub has_route : Account → Account → Bool → ℕ → Ticket → ℕ → Bool
has_route service1 service2 resource number1 evidence number2 =
    classic_route service1 evidence number2 || resource_route service2 resource number1 evidence

-- R5.7: the evidence's client is not barred now, CNAME-IN-ADDL-TKT stands, and a route holds
unfoldable pub is_permitted : Account → Account → Account → Bool → Bool → ℕ → Ticket → ℕ → Bool
is_permitted client service1 service2 cname resource number1 evidence number2 =
    not (is_barred client) && (cname && has_route service1 service2 resource number1 evidence number2)
