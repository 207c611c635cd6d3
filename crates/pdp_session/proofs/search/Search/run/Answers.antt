use Rattle.std.proofs.Common.{◌-◌, ◌∙◌, ap, nat_lt, refl}
use Rattle.std.proofs.lemmas.Result.{err_from_is_err_and}
use Rattle.pdp_session.specs.declared.search.Finding.TheVariants as found
use Rattle.pdp_session.specs.declared.search.Search.TheVariants as search
use Rattle.pdp_session.proofs.Findings.{fading_answered, fading_refused, first_accesses, first_reads, first_transfers, first_writes}
use Rattle.pdp_session.proofs.Findings.{question_answered, question_refused, search_answered, search_refused, search_short}
use Rattle.pdp_session.proofs.search.Search.run.Goals as goal

pub returns-in_err-first_at-in-First-clause-finding : goal.returns-in_err-first_at-in-First-clause-finding
returns-in_err-first_at-in-First-clause-finding c =
    let (fault, is, same) = err_from_is_err_and c.from_residual.result c.from_residual.ensures.1 in
    rw (c.in-First.is, is, same) (search_refused (search.First c.in-First.from c.in-First.to c.in-First.sought) c.args.engine.now.past c.in_err-first_at-in-First.field-0.0 c.in_err-first_at-in-First.ensures.refusal)

pub returns-in_err-last_at-in-Latest-clause-finding : goal.returns-in_err-last_at-in-Latest-clause-finding
returns-in_err-last_at-in-Latest-clause-finding c =
    let (fault, is, same) = err_from_is_err_and c.from_residual-in_err-last_at-in-Latest.result c.from_residual-in_err-last_at-in-Latest.ensures.1 in
    rw (c.in-Latest.is, is, same) (search_refused (search.Latest c.in-Latest.from c.in-Latest.to c.in-Latest.sought) c.args.engine.now.past c.in_err-last_at-in-Latest.field-0.0 c.in_err-last_at-in-Latest.ensures.refusal)

pub returns-in_err-found-in-Writes-clause-finding : goal.returns-in_err-found-in-Writes-clause-finding
returns-in_err-found-in-Writes-clause-finding c =
    let (fault, is, same) = err_from_is_err_and c.from_residual-in_err-found-in-Writes.result c.from_residual-in_err-found-in-Writes.ensures.1 in
    rw (c.in-Writes.is, is, same) (search_refused (search.Writes c.in-Writes.from c.in-Writes.to c.in-Writes.address) c.args.engine.now.past c.in_err-found-in-Writes.field-0.0 c.in_err-found-in-Writes.ensures.refusal)

pub returns-in_err-found-in-Reads-clause-finding : goal.returns-in_err-found-in-Reads-clause-finding
returns-in_err-found-in-Reads-clause-finding c =
    let (fault, is, same) = err_from_is_err_and c.from_residual-in_err-found-in-Reads.result c.from_residual-in_err-found-in-Reads.ensures.1 in
    rw (c.in-Reads.is, is, same) (search_refused (search.Reads c.in-Reads.from c.in-Reads.to c.in-Reads.address) c.args.engine.now.past c.in_err-found-in-Reads.field-0.0 c.in_err-found-in-Reads.ensures.refusal)

pub returns-in_err-found-in-Accesses-clause-finding : goal.returns-in_err-found-in-Accesses-clause-finding
returns-in_err-found-in-Accesses-clause-finding c =
    let (fault, is, same) = err_from_is_err_and c.from_residual-in_err-found-in-Accesses.result c.from_residual-in_err-found-in-Accesses.ensures.1 in
    rw (c.in-Accesses.is, is, same) (search_refused (search.Accesses c.in-Accesses.turn c.in-Accesses.count) c.args.engine.now.past c.in_err-found-in-Accesses.field-0.0 c.in_err-found-in-Accesses.ensures.refusal)

pub returns-in_err-found-in-Moves-clause-finding : goal.returns-in_err-found-in-Moves-clause-finding
returns-in_err-found-in-Moves-clause-finding c =
    let (fault, is, same) = err_from_is_err_and c.from_residual-in_err-found-in-Moves.result c.from_residual-in_err-found-in-Moves.ensures.1 in
    rw (c.in-Moves.is, is, same) (search_refused (search.Moves c.in-Moves.turn c.in-Moves.count) c.args.engine.now.past c.in_err-found-in-Moves.field-0.0 c.in_err-found-in-Moves.ensures.refusal)

pub returns-in_err-found-in-Transfers-clause-finding : goal.returns-in_err-found-in-Transfers-clause-finding
returns-in_err-found-in-Transfers-clause-finding c =
    let (fault, is, same) = err_from_is_err_and c.from_residual-in_err-found-in-Transfers.result c.from_residual-in_err-found-in-Transfers.ensures.1 in
    rw (c.in-Transfers.is, is, same) (search_refused (search.Transfers c.in-Transfers.from c.in-Transfers.to) c.args.engine.now.past c.in_err-found-in-Transfers.field-0.0 c.in_err-found-in-Transfers.ensures.refusal)

pub returns-in_err-next_change-in-Change-clause-finding : goal.returns-in_err-next_change-in-Change-clause-finding
returns-in_err-next_change-in-Change-clause-finding c =
    let (fault, is, same) = err_from_is_err_and c.from_residual-in_err-next_change-in-Change.result c.from_residual-in_err-next_change-in-Change.ensures.1 in
    rw (c.in-Change.is, is, same) (search_refused (search.Change c.in-Change.from c.in-Change.to c.in-Change.drive c.in-Change.number) c.args.engine.now.past c.in_err-next_change-in-Change.field-0.0 c.in_err-next_change-in-Change.ensures.refusal)

pub returns-in_err-text_from-in-TextFrom-clause-finding : goal.returns-in_err-text_from-in-TextFrom-clause-finding
returns-in_err-text_from-in-TextFrom-clause-finding c =
    let (fault, is, same) = err_from_is_err_and c.from_residual-in_err-text_from-in-TextFrom.result c.from_residual-in_err-text_from-in-TextFrom.ensures.1 in
    rw (c.in-TextFrom.is, is, same) (search_refused (search.TextFrom c.in-TextFrom.kind c.in-TextFrom.turn c.in-TextFrom.first) c.args.engine.now.past c.in_err-text_from-in-TextFrom.field-0.0 c.in_err-text_from-in-TextFrom.ensures.refusal)

pub returns-in_err-turn_of_byte-in-When-clause-finding : goal.returns-in_err-turn_of_byte-in-When-clause-finding
returns-in_err-turn_of_byte-in-When-clause-finding c =
    let (fault, is, same) = err_from_is_err_and c.from_residual-in_err-turn_of_byte-in-When.result c.from_residual-in_err-turn_of_byte-in-When.ensures.1 in
    rw (c.in-When.is, is, same) (search_refused (search.When c.in-When.number) c.args.engine.now.past c.in_err-turn_of_byte-in-When.field-0.0 c.in_err-turn_of_byte-in-When.ensures.refusal)

pub returns-in_err-fades-in-Fades-clause-finding : goal.returns-in_err-fades-in-Fades-clause-finding
returns-in_err-fades-in-Fades-clause-finding c =
    let (fault, is, same) = err_from_is_err_and c.from_residual-in_err-fades-in-Fades.result c.from_residual-in_err-fades-in-Fades.ensures.1 in
    let told = rw c.in_err-fades-in-Fades.was at c.fades.ensures.turn in
    rw (c.in-Fades.is, is, same) (fading_refused c.in-Fades.edit c.in-Fades.to c.args.engine.now.past c.in_err-fades-in-Fades.field-0.0 told)

pub returns-in_err-ask-in-Ask-clause-finding : goal.returns-in_err-ask-in-Ask-clause-finding
returns-in_err-ask-in-Ask-clause-finding c =
    let (fault, is, same) = err_from_is_err_and c.from_residual-in_err-ask-in-Ask.result c.from_residual-in_err-ask-in-Ask.ensures.1 in
    let told = rw c.in_err-ask-in-Ask.was at c.ask.ensures.value in
    rw (c.in-Ask.is, is, same) (question_refused c.in-Ask.question c.args.engine.now.past c.in_err-ask-in-Ask.field-0.0 told)

pub returns-in_err-counted-in-Counts-clause-finding : goal.returns-in_err-counted-in-Counts-clause-finding
returns-in_err-counted-in-Counts-clause-finding c =
    let (fault, is, same) = err_from_is_err_and c.from_residual-in_err-counted-in-Counts.result c.from_residual-in_err-counted-in-Counts.ensures.1 in
    rw (c.in-Counts.is, is, same) (search_refused (search.Counts c.in-Counts.from c.in-Counts.to c.in-Counts.words) c.args.engine.now.past c.in_err-counted-in-Counts.field-0.0 c.in_err-counted-in-Counts.ensures.refusal)

pub returns-in_err-events-in-Events-clause-finding : goal.returns-in_err-events-in-Events-clause-finding
returns-in_err-events-in-Events-clause-finding c =
    let (fault, is, same) = err_from_is_err_and c.from_residual-in_err-events-in-Events.result c.from_residual-in_err-events-in-Events.ensures.1 in
    rw (c.in-Events.is, is, same) (search_short search.Events c.args.engine.now.past refl)

pub returns-in_ok-first_at-in-First-clause-finding : goal.returns-in_ok-first_at-in-First-clause-finding
returns-in_ok-first_at-in-First-clause-finding c =
    rw c.in-First.is (search_answered (search.First c.in-First.from c.in-First.to c.in-First.sought) c.args.engine.now.past (found.First c.in_ok-first_at-in-First.field-0.value) c.in_ok-first_at-in-First.ensures.refusal (ap found.First c.in_ok-first_at-in-First.ensures.value))

pub returns-in_ok-last_at-in-Latest-clause-finding : goal.returns-in_ok-last_at-in-Latest-clause-finding
returns-in_ok-last_at-in-Latest-clause-finding c =
    rw c.in-Latest.is (search_answered (search.Latest c.in-Latest.from c.in-Latest.to c.in-Latest.sought) c.args.engine.now.past (found.Latest c.in_ok-last_at-in-Latest.field-0.value) c.in_ok-last_at-in-Latest.ensures.refusal (ap found.Latest c.in_ok-last_at-in-Latest.ensures.value))

pub returns-in_ok-found-in-Writes-clause-finding : goal.returns-in_ok-found-in-Writes-clause-finding
returns-in_ok-found-in-Writes-clause-finding c =
    let value = c.in_ok-found-in-Writes.found.value in
    rw c.in-Writes.is (search_answered (search.Writes c.in-Writes.from c.in-Writes.to c.in-Writes.address) c.args.engine.now.past (found.Writes c.new.result (nat_lt value.reached c.in-Writes.to)) c.in_ok-found-in-Writes.ensures.refusal
    (first_writes c.new.result value.writes.items _ value.reached c.in-Writes.to c.new.ensures c.in_ok-found-in-Writes.ensures.value c.in_ok-found-in-Writes.ensures.reached))

pub returns-in_ok-found-in-Reads-clause-finding : goal.returns-in_ok-found-in-Reads-clause-finding
returns-in_ok-found-in-Reads-clause-finding c =
    let value = c.in_ok-found-in-Reads.found.value in
    rw c.in-Reads.is (search_answered (search.Reads c.in-Reads.from c.in-Reads.to c.in-Reads.address) c.args.engine.now.past (found.Reads c.new-in-Reads.result (nat_lt value.reached c.in-Reads.to)) c.in_ok-found-in-Reads.ensures.refusal
    (first_reads c.new-in-Reads.result value.reads.items _ value.reached c.in-Reads.to c.new-in-Reads.ensures c.in_ok-found-in-Reads.ensures.value c.in_ok-found-in-Reads.ensures.reached))

pub returns-in_ok-found-in-Accesses-clause-finding : goal.returns-in_ok-found-in-Accesses-clause-finding
returns-in_ok-found-in-Accesses-clause-finding c =
    let value = c.in_ok-found-in-Accesses.found.value in
    let turn = c.in-Accesses.turn in
    rw c.in-Accesses.is (search_answered (search.Accesses turn c.in-Accesses.count) c.args.engine.now.past (found.Accesses c.new-in-Accesses.result (nat_lt value.reached turn)) c.in_ok-found-in-Accesses.ensures.refusal
    (first_accesses c.args.engine.now.past c.new-in-Accesses.result value.details.items (turn - c.in-Accesses.count) value.reached turn c.new-in-Accesses.ensures c.in_ok-found-in-Accesses.ensures.value c.in_ok-found-in-Accesses.ensures.reached))

pub returns-in_ok-found-in-Moves-clause-finding : goal.returns-in_ok-found-in-Moves-clause-finding
returns-in_ok-found-in-Moves-clause-finding c =
    rw c.in-Moves.is (search_answered (search.Moves c.in-Moves.turn c.in-Moves.count) c.args.engine.now.past (found.Moves c.new-in-Moves.result) c.in_ok-found-in-Moves.ensures.refusal (ap found.Moves (c.new-in-Moves.ensures ∙ c.in_ok-found-in-Moves.ensures.value)))

pub returns-in_ok-found-in-Transfers-clause-finding : goal.returns-in_ok-found-in-Transfers-clause-finding
returns-in_ok-found-in-Transfers-clause-finding c =
    let value = c.in_ok-found-in-Transfers.found.value in
    rw c.in-Transfers.is (search_answered (search.Transfers c.in-Transfers.from c.in-Transfers.to) c.args.engine.now.past (found.Transfers c.new-in-Transfers.result (nat_lt value.reached c.in-Transfers.to)) c.in_ok-found-in-Transfers.ensures.refusal
    (first_transfers c.new-in-Transfers.result value.completions.items _ value.reached c.in-Transfers.to c.new-in-Transfers.ensures c.in_ok-found-in-Transfers.ensures.value c.in_ok-found-in-Transfers.ensures.reached))

pub returns-in_ok-next_change-in-Change-clause-finding : goal.returns-in_ok-next_change-in-Change-clause-finding
returns-in_ok-next_change-in-Change-clause-finding c =
    rw c.in-Change.is (search_answered (search.Change c.in-Change.from c.in-Change.to c.in-Change.drive c.in-Change.number) c.args.engine.now.past (found.Change c.in_ok-next_change-in-Change.field-0.value) c.in_ok-next_change-in-Change.ensures.refusal (ap found.Change c.in_ok-next_change-in-Change.ensures.value))

pub returns-in_ok-text_from-in-TextFrom-clause-finding : goal.returns-in_ok-text_from-in-TextFrom-clause-finding
returns-in_ok-text_from-in-TextFrom-clause-finding c =
    rw c.in-TextFrom.is (search_answered (search.TextFrom c.in-TextFrom.kind c.in-TextFrom.turn c.in-TextFrom.first) c.args.engine.now.past (found.TextFrom c.in-TextFrom.kind c.in_ok-text_from-in-TextFrom.field-0.value) c.in_ok-text_from-in-TextFrom.ensures.refusal (ap (found.TextFrom c.in-TextFrom.kind) c.in_ok-text_from-in-TextFrom.ensures.bytes))

pub returns-in_ok-turn_of_byte-in-When-clause-finding : goal.returns-in_ok-turn_of_byte-in-When-clause-finding
returns-in_ok-turn_of_byte-in-When-clause-finding c =
    rw c.in-When.is (search_answered (search.When c.in-When.number) c.args.engine.now.past (found.When c.in_ok-turn_of_byte-in-When.field-0.value) c.in_ok-turn_of_byte-in-When.ensures.refusal (ap found.When c.in_ok-turn_of_byte-in-When.ensures.value))

pub returns-in_ok-fades-in-Fades-clause-finding : goal.returns-in_ok-fades-in-Fades-clause-finding
returns-in_ok-fades-in-Fades-clause-finding c =
    let told = rw c.in_ok-fades-in-Fades.was at c.fades.ensures.turn in
    rw c.in-Fades.is (fading_answered c.in-Fades.edit c.in-Fades.to c.args.engine.now.past c.in_ok-fades-in-Fades.field-0.value told)

pub returns-in_ok-ask-in-Ask-clause-finding : goal.returns-in_ok-ask-in-Ask-clause-finding
returns-in_ok-ask-in-Ask-clause-finding c =
    let told = rw c.in_ok-ask-in-Ask.was at c.ask.ensures.value in
    rw c.in-Ask.is (question_answered c.in-Ask.question c.args.engine.now.past c.in_ok-ask-in-Ask.field-0.value told)

pub returns-in_ok-counted-in-Counts-clause-finding : goal.returns-in_ok-counted-in-Counts-clause-finding
returns-in_ok-counted-in-Counts-clause-finding c =
    rw c.in-Counts.is (search_answered (search.Counts c.in-Counts.from c.in-Counts.to c.in-Counts.words) c.args.engine.now.past (found.Counts c.new-in-Counts.result) c.in_ok-counted-in-Counts.ensures.refusal (ap found.Counts (c.new-in-Counts.ensures ∙ c.in_ok-counted-in-Counts.ensures.value)))

pub returns-in_ok-events-in-Events-clause-finding : goal.returns-in_ok-events-in-Events-clause-finding
returns-in_ok-events-in-Events-clause-finding c =
    rw c.in-Events.is (search_answered search.Events c.args.engine.now.past (found.Events c.new-in-Events.result) refl (ap found.Events (c.new-in-Events.ensures ∙ c.in_ok-events-in-Events.ensures)))

pub returns-in-Setup-clause-finding : goal.returns-in-Setup-clause-finding
returns-in-Setup-clause-finding c =
    rw c.in-Setup.is (search_answered search.Setup c.args.engine.now.past (found.Setup c.of.result c.setup.result) refl (rw (c.of.ensures, c.setup.ensures) refl))
