use Rattle.sheets.proofs.answer.fills_its_chunks.Goals as goal

pub returns : goal.returns
returns c n counts = let only = c.chunk_count.ensures.only n counts in cc
