mod ProgramLists
