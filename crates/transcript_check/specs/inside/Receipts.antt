-- Internal: which COUNTs were received, and how many packets were delivered, are what looking back gives.
use Rattle.std.specs.Prelude.{◌≡◌, ◌↔◌, ℕ, List, Some, IsTrue, is_some, length, slice_get}
use Rattle.std.specs.declared.cmp.Ordering.{Ordering}
use Rattle.gnb_types.specs.declared.keys.EntityKey.{EntityKey}
use Rattle.gnb_types.specs.Orders.{entity_cmp}
use Rattle.scenario_text.specs.declared.event.Event.{Event}
use Rattle.tables.specs.Tables.{find, at}
use Rattle.transcript_defs.specs.declared.line.TextLine.{TextLine}
use Rattle.transcript_defs.specs.Past.{offered, delivered}
use Rattle.transcript_defs.specs.Rules.{WasReceived}
use Rattle.transcript_check.specs.declared.index.receipts.Receipt.{Receipt}
use Rattle.transcript_check.specs.declared.index.receipts.Receipts.{Receipts}
use Rattle.transcript_check.specs.contracts.index.receipts.ReceiptOrd.TheImpl as receipt_order

abbrev pub receipt_cmp : Receipt → Receipt → Ordering
receipt_cmp = (receipt_order.cmp-value).it

abbrev pub receipt : EntityKey → ℕ → Receipt
receipt key count = record { key = key; count = count }

abbrev pub delivered_on : Receipts → EntityKey → ℕ
delivered_on receipts key = at entity_cmp 0 receipts.delivered key

-- the marks are those of what was received
abbrev pub AreReceived : List TextLine → List (Receipt × Unit {0}) → Type 0
AreReceived past received =
    (key : EntityKey) (count : ℕ) → IsTrue (is_some (find receipt_cmp received (receipt key count))) ↔ ((packet : List ℕ) × WasReceived key count packet past)

-- what was received with a COUNT is the packet of that COUNT
abbrev pub AreOffered : List TextLine → List Event → Type 0
AreOffered past happened =
    (key : EntityKey) (count : ℕ) (packet : List ℕ) → WasReceived key count packet past → slice_get (offered key happened) count ≡ Some packet

-- so many packets were delivered
abbrev pub AreCounted : List TextLine → Receipts → Type 0
AreCounted past receipts = (key : EntityKey) → delivered_on receipts key ≡ length (delivered key past)
