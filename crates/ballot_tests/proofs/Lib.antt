mod ManyMarks
