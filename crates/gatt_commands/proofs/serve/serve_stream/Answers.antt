use Rattle.gatt_commands.proofs.serve.serve_stream.Goals as goal

pub returns-in-Ok-clause-serves : goal.returns-in-Ok-clause-serves
returns-in-Ok-clause-serves g c = λ none.
    record { ended = c.serve.result; serves = c.serve.ensures.serves none; refines = c.serve.ensures.outcome }

pub returns-in-Err-clause-serves : goal.returns-in-Err-clause-serves
returns-in-Err-clause-serves g c = λ none.
    record { ended = c.serve.result; serves = c.serve.ensures.serves none; refines = c.serve.ensures.outcome }
