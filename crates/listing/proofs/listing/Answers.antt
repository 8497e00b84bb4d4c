-- The text is the listing of what was read and run.
use Rattle.std.proofs.Common.{◌≡◌}
use Rattle.std.proofs.lemmas.Result.{IfOk-weaker}
use Rattle.store.specs.States.{fresh_state}
use Rattle.runs.specs.Machine.{events_of}
use Rattle.listing.proofs.Listings.{listed}
use Rattle.listing.proofs.listing.Goals as goal

pub returns : goal.returns
returns g c =
    let found = c.in_ok-stop.ensures in
    let shown = c.in_ok-add_lines.ensures in
    let ran : c.deref-2.result.now ≡ events_of g.B.Bank (fresh_state g.B.Bank c.args.clocks) found.0 =
    simp (c.deref-2.ensures.value, c.in_ok-run.ensures.log, c.new-log.ensures.items, c.new-store.ensures, c.deref.ensures.value, found.1, c.new-commands.ensures.items) in
    let all : c.deref-3.result.now ≡ shown.0 = simp (c.deref-3.ensures.value, shown.1, c.new-lines.ensures.items) in
    IfOk-weaker c.text_of.result _ _ (λ s text. listed _ _ _ _ _ _ _ found.2 (rw ran at shown.2) (rw all at text)) c.text_of.ensures
