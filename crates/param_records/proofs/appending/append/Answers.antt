use Rattle.param_records.proofs.appending.append.Goals as goal

pub returns-clause-inside : goal.returns-clause-inside
returns-clause-inside c = λ h. c.put_header.ensures.inside (c.put-2.ensures.inside (c.put.ensures.inside h))

pub returns-clause-bytes : goal.returns-clause-bytes
returns-clause-bytes c = λ h. c.put_header.ensures.bytes (c.put-2.ensures.bytes (c.put.ensures.bytes h))
